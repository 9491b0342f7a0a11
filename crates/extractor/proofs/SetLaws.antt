-- The set that the images of a cache make.
use Rattle.std.proofs.Common.{◌≡◌, ◌≤◌, ℕ, zero, suc, Option, Some, None, List, [], ◌∷◌, map, length, refl, sym, ap, ap₂, ◌∙◌, subst, arith, inr}
use Rattle.std.specs.Prelude.{slice_get}
use Rattle.std.specs.Option.{option_or}
use Rattle.std.proofs.lemmas.List.{length-map}
use Rattle.dsc_base.specs.declared.fault.Break.{Break}
use Rattle.dsc_base.specs.declared.fault.SetFault.{SetFault}
use Rattle.dsc_base.specs.declared.fault.SetFault.TheVariants.{Broken, Memory}
use Rattle.dsc_base.specs.Refusals.{IsSetRefusal}
use Rattle.macho_image.specs.Records.{Img}
use Rattle.macho_image.specs.Streams.{records, opcodes_in, reading_break}
use Rattle.macho_image.specs.Order.{first_close}
use Rattle.rebase_ops.specs.Rebases.{rebases_of, rebase_break}
use Rattle.dep_closure.specs.Linked.{Linked, links_of}
use Rattle.dep_closure.specs.Breaks.{link_break}
use Rattle.prebind.specs.Sets.{StreamLists, ImageSet, AreStreamsOf, IsSoundSet}
use Rattle.extractor.specs.Reading.{IsRead, AreRead}
use Rattle.extractor.specs.Vetting.{cached_lists, cached_set, sums_from, symbols_break, set_break}

-- a stream of no bytes has no rebases and breaks no rule
no_rebases : (i : Img) (bytes : List ℕ) → bytes ≡ [] → (rebases_of bytes i ≡ []) × (rebase_break bytes i ≡ None)
unfolding rebases_of rebase_break records opcodes_in reading_break first_close
no_rebases i [] is = (refl, refl)
no_rebases i (b ∷ bs) is = absurd (cc)

pub streams_sound : (i : Img) → IsRead i → AreStreamsOf i (cached_lists i)
streams_sound i read =
    let none = no_rebases i i.streams.rebase read.rebases in
    record {
      rebases = sym none.0;
      rebases_accepted = none.1;
      binds = refl;
      binds_accepted = read.binds;
      lazy_accepted = read.lazy;
      weak_accepted = read.weak;
      apart = read.apart;
      exports = refl;
      exports_accepted = read.exports;
      references = inr refl;
    }

each_sound : (images : List Img) → AreRead images → (k : ℕ) (i : Img) (s : StreamLists) → slice_get images k ≡ Some i → slice_get (map cached_lists images) k ≡ Some s → AreStreamsOf i s
each_sound [] read k i s got given = absurd (cc)
each_sound (j ∷ js) read zero i s got given =
    let same : j ≡ i = cc in
    let lists : cached_lists j ≡ s = cc in
    subst (λ (t : StreamLists). AreStreamsOf i t) lists (subst (λ (m : Img). AreStreamsOf m (cached_lists j)) same (streams_sound j (read 0 j (omega arith))))
each_sound (j ∷ js) read (suc k) i s got given = each_sound js (λ n d lt. read (suc n) d (omega (arith, lt))) k i s got given

pub held : List Img → List StreamLists → Linked → ImageSet
held images streams links = record { images = images; streams = streams; links = links }

pub cached_sound : (images : List Img) (streams : List StreamLists) (links : Linked) → length images ≤ 4096 → AreRead images → streams ≡ map cached_lists images → links ≡ links_of images → link_break images ≡ None
    → IsSoundSet (record { images = images; streams = streams; links = links })
cached_sound images streams links few read streams_are links_are linked =
    subst IsSoundSet (ap₂ (λ (s : List StreamLists) (l : Linked). let set : ImageSet = record { images = images; streams = s; links = l } in set) (sym streams_are) (sym links_are))
    (record {
      few = omega (arith, few);
      many = length-map images cached_lists;
      streams = each_sound images read;
      links = refl;
      linked = linked;
    })

pub cached_is : (images : List Img) (streams : List StreamLists) (links : Linked) → streams ≡ map cached_lists images → links ≡ links_of images → cached_set images ≡ record { images = images; streams = streams; links = links }
unfolding cached_set
cached_is images streams links streams_are links_are =
    ap₂ (λ (s : List StreamLists) (l : Linked). let set : ImageSet = record { images = images; streams = s; links = l } in set) (sym streams_are) (sym links_are)

-- ---- the phases, one after the other

pub sums_refused : (images : List Img) (fault : SetFault) → IsSetRefusal (sums_from 0 0 0 images) fault → IsSetRefusal (set_break images) fault
unfolding set_break
sums_refused images (Broken b) found = ap (λ (o : Option Break). option_or o (option_or (link_break images) (option_or (symbols_break (cached_set images)) None))) found
sums_refused images Memory found = tt

after_sums : (images : List Img) → sums_from 0 0 0 images ≡ None → set_break images ≡ option_or (link_break images) (option_or (symbols_break (cached_set images)) None)
unfolding set_break
after_sums images none = ap (λ (o : Option Break). option_or o (option_or (link_break images) (option_or (symbols_break (cached_set images)) None))) none

pub links_refused : (images : List Img) (fault : SetFault) → sums_from 0 0 0 images ≡ None → IsSetRefusal (link_break images) fault → IsSetRefusal (set_break images) fault
links_refused images (Broken b) none found = after_sums images none ∙ ap (λ (o : Option Break). option_or o (option_or (symbols_break (cached_set images)) None)) found
links_refused images Memory none found = tt

after_links : (images : List Img) → sums_from 0 0 0 images ≡ None → link_break images ≡ None → set_break images ≡ option_or (symbols_break (cached_set images)) None
after_links images none linked = after_sums images none ∙ ap (λ (o : Option Break). option_or o (option_or (symbols_break (cached_set images)) None)) linked

pub symbols_refused : (images : List Img) (streams : List StreamLists) (links : Linked) (fault : SetFault) → streams ≡ map cached_lists images → links ≡ links_of images → sums_from 0 0 0 images ≡ None → link_break images ≡ None
    → IsSetRefusal (symbols_break (record { images = images; streams = streams; links = links })) fault → IsSetRefusal (set_break images) fault
symbols_refused images streams links (Broken b) streams_are links_are none linked found =
    after_links images none linked ∙ ap (λ (o : Option Break). option_or o None) (ap symbols_break (cached_is images streams links streams_are links_are) ∙ found)
symbols_refused images streams links Memory streams_are links_are none linked found = tt

pub set_none : (images : List Img) (streams : List StreamLists) (links : Linked) → streams ≡ map cached_lists images → links ≡ links_of images → sums_from 0 0 0 images ≡ None → link_break images ≡ None
    → symbols_break (record { images = images; streams = streams; links = links }) ≡ None → set_break images ≡ None
set_none images streams links streams_are links_are none linked found =
    after_links images none linked ∙ ap (λ (o : Option Break). option_or o None) (ap symbols_break (cached_is images streams links streams_are links_are) ∙ found)
