-- What the writer's proof alone speaks of: the changes of one piece of the data, by their places in it. A piece is whole pages, so no word and no chain lies in two.
use Rattle.std.specs.Prelude.{ℕ, ◌-◌}
use Rattle.dsc_base.specs.Edits.{Change}

-- the same change n bytes earlier
abbrev pub earlier : ℕ → Change → Change
earlier n c = record { at = c.at - n; width = c.width; becomes = c.becomes }
