-- A view as contracts see it, from its fields.
use Rattle.cache_check.specs.declared.view.CacheView.TheInside.{Inside}
use Rattle.cache_check.specs.Views.{View, IsSoundView}

abbrev pub view_fields : Inside → View
view_fields i = record { head = i.head; info = i.info; words = i.words.items; flat = i.flat.items }

abbrev pub IsSoundInside : Inside → Type 0
IsSoundInside i = IsSoundView (view_fields i)
