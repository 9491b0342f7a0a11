-- Why a bind stream is refused: rules 41 to 56, and 61 to 76 of the lazy one.
use Rattle.dsc_base.specs.declared.rule.Rule.{Rule}
use Rattle.dsc_base.specs.declared.rule.Rule.TheVariants.{BindBadUleb, BindBadOpcode, BindBadType, BindOutsideSegment, BindNotWritable, BindOutsideSection, BindMisaligned, BindCrossesPage, BindTooMany, BindTwice, BindBeforeSet, BindMainLookup, BindFlatLookup, BindWeakLookup, BindThreaded, BindBadName, LazyBadUleb, LazyBadOpcode, LazyBadType, LazyOutsideSegment, LazyNotWritable, LazyOutsideSection, LazyMisaligned, LazyCrossesPage, LazyTooMany, LazyTwice, LazyBeforeSet, LazyMainLookup, LazyFlatLookup, LazyWeakLookup, LazyThreaded, LazyBadName}
use Rattle.macho_image.specs.declared.places.record.PlaceFault.{PlaceFault}
use Rattle.macho_image.specs.declared.places.record.PlaceFault.TheVariants.{OutsideSegment, NotWritable, OutsideSection, Misaligned, CrossesPage, TooMany}
use Rattle.bind_ops.specs.declared.kind.StreamKind.{StreamKind}
use Rattle.bind_ops.specs.declared.kind.StreamKind.TheVariants.{Bind, Lazy}

-- why an opcode or a record is refused: a number, an opcode or a type that is none, a place where no word may be bound, a record before all is set, a symbol that is sought elsewhere than in a dylib, a name that is none, and words that share a byte
pub data Reason : Type 0 where
  BadUleb : Reason
  BadOpcode : Reason
  BadType : Reason
  Place : PlaceFault → Reason
  BeforeSet : Reason
  MainLookup : Reason
  FlatLookup : Reason
  WeakLookup : Reason
  Threaded : Reason
  BadName : Reason
  Twice : Reason

abbrev pub bind_rule : Reason → Rule
bind_rule BadUleb = BindBadUleb
bind_rule BadOpcode = BindBadOpcode
bind_rule BadType = BindBadType
bind_rule (Place OutsideSegment) = BindOutsideSegment
bind_rule (Place NotWritable) = BindNotWritable
bind_rule (Place OutsideSection) = BindOutsideSection
bind_rule (Place Misaligned) = BindMisaligned
bind_rule (Place CrossesPage) = BindCrossesPage
bind_rule (Place TooMany) = BindTooMany
bind_rule BeforeSet = BindBeforeSet
bind_rule MainLookup = BindMainLookup
bind_rule FlatLookup = BindFlatLookup
bind_rule WeakLookup = BindWeakLookup
bind_rule Threaded = BindThreaded
bind_rule BadName = BindBadName
bind_rule Twice = BindTwice

abbrev pub lazy_rule : Reason → Rule
lazy_rule BadUleb = LazyBadUleb
lazy_rule BadOpcode = LazyBadOpcode
lazy_rule BadType = LazyBadType
lazy_rule (Place OutsideSegment) = LazyOutsideSegment
lazy_rule (Place NotWritable) = LazyNotWritable
lazy_rule (Place OutsideSection) = LazyOutsideSection
lazy_rule (Place Misaligned) = LazyMisaligned
lazy_rule (Place CrossesPage) = LazyCrossesPage
lazy_rule (Place TooMany) = LazyTooMany
lazy_rule BeforeSet = LazyBeforeSet
lazy_rule MainLookup = LazyMainLookup
lazy_rule FlatLookup = LazyFlatLookup
lazy_rule WeakLookup = LazyWeakLookup
lazy_rule Threaded = LazyThreaded
lazy_rule BadName = LazyBadName
lazy_rule Twice = LazyTwice

abbrev pub rule_in : StreamKind → Reason → Rule
rule_in Bind reason = bind_rule reason
rule_in Lazy reason = lazy_rule reason
