-- Words as bytes, one after the other, and edits in their order.
use Rattle.std.proofs.Common.{◌≡◌, ◌≤◌, ◌<◌, ℕ, suc, ◌+◌, ◌-◌, ◌*◌, ◌%◌, List, [], ◌∷◌, ◌++◌, drop, length, get_or, refl, ap, ◌∙◌, arith, length-append}
use Rattle.dsc_base.specs.Numbers.{little_bytes, put_number}
use Rattle.dsc_base.proofs.NumberLaws.{length-little_bytes}
use Rattle.dsc_base.specs.Edits.{put_all}
use Rattle.export_trie.specs.declared.export.Export.{Export}
use Rattle.export_trie.specs.declared.export.Target.TheVariants.{Offset}
use Rattle.dsc_gen.specs.declared.split.Delta.{Delta}
use Rattle.dsc_gen.specs.Draws.{text_start}
use Rattle.dsc_gen.specs.Contents.{words_bytes, delta_place, pointer_place, target, delta_edits, pointer_edits}
use Rattle.dsc_gen.specs.Split.{deltas_from}
use Rattle.dsc_gen.specs.Streams.{rebase_opcodes, rebases_from, rebase_stream, symbol_name, bind_opcodes, binds_from, bind_stream, exports_from}
use Rattle.dsc_gen.proofs.ListingLaws.{made_more, made_all, listed_more, listed_all, edited_more, edited_all}

pub bytes_more : (ws : List ℕ) (i : ℕ) (done new whole : List ℕ) → i < length ws → done ++ words_bytes (drop i ws) ≡ whole → new ≡ done ++ little_bytes 4 (get_or ws i 0) → new ++ words_bytes (drop (i + 1) ws) ≡ whole
unfolding words_bytes
bytes_more ws i done new whole lt so_far is = listed_more (λ _ (l : List ℕ). words_bytes l) (λ _ w. little_bytes 4 w) (λ _ w l. refl) 0 1 ws i done new whole refl lt so_far is

pub bytes_all : (ws : List ℕ) (i : ℕ) (done whole : List ℕ) → length ws ≤ i → done ++ words_bytes (drop i ws) ≡ whole → done ≡ whole
unfolding words_bytes
bytes_all ws i done whole le so_far = listed_all (λ _ (l : List ℕ). words_bytes l) (λ _. refl) 0 ws i done whole le so_far

pub deltas_more : (size : ℕ) (ws : List ℕ) (i : ℕ) (done new whole : List ℕ) → i < length ws → put_all (delta_edits size i (drop i ws)) done ≡ whole
    → new ≡ put_number 4 done (delta_place i) (size + target size (get_or ws i 0) - (text_start + delta_place i)) → put_all (delta_edits size (i + 1) (drop (i + 1) ws)) new ≡ whole
deltas_more size ws i done new whole lt so_far is =
    edited_more (delta_edits size) (λ k w. record { at = delta_place k; width = 4; value = size + target size w - (text_start + delta_place k) }) (λ k w l. refl) ws i done new whole lt so_far is

pub deltas_all : (size : ℕ) (ws : List ℕ) (i : ℕ) (done whole : List ℕ) → length ws ≤ i → put_all (delta_edits size i (drop i ws)) done ≡ whole → done ≡ whole
deltas_all size ws i done whole le so_far = edited_all (delta_edits size) (λ _. refl) ws i done whole le so_far

pub pointers_more : (size : ℕ) (ws : List ℕ) (i : ℕ) (done new whole : List ℕ) → i < length ws → put_all (pointer_edits size i (drop i ws)) done ≡ whole
    → new ≡ put_number 8 done (pointer_place i) (text_start + get_or ws i 0 % (2 * size - text_start)) → put_all (pointer_edits size (i + 1) (drop (i + 1) ws)) new ≡ whole
pointers_more size ws i done new whole lt so_far is =
    edited_more (pointer_edits size) (λ k w. record { at = pointer_place k; width = 8; value = text_start + w % (2 * size - text_start) }) (λ k w l. refl) ws i done new whole lt so_far is

pub pointers_all : (size : ℕ) (ws : List ℕ) (i : ℕ) (done whole : List ℕ) → length ws ≤ i → put_all (pointer_edits size i (drop i ws)) done ≡ whole → done ≡ whole
pointers_all size ws i done whole le so_far = edited_all (pointer_edits size) (λ _. refl) ws i done whole le so_far

-- deltas, and exports, that are pushed one after the other
pub listed_deltas : (size : ℕ) (ws : List ℕ) (i : ℕ) (done new whole : List Delta) → i < length ws → done ++ deltas_from size i (drop i ws) ≡ whole
    → new ≡ done ++ record { to = target size (get_or ws i 0); from = delta_place i } ∷ [] → new ++ deltas_from size (i + 1) (drop (i + 1) ws) ≡ whole
listed_deltas size ws i done new whole lt so_far is = listed_more (deltas_from size) (λ k w. record { to = target size w; from = delta_place k } ∷ []) (λ k w l. refl) i (i + 1) ws i done new whole (let next : suc i ≡ i + 1 = omega arith in next) lt so_far is

pub listed_exports : (size : ℕ) (ws : List ℕ) (i : ℕ) (done new whole : List Export) → i < length ws → done ++ exports_from size i (drop i ws) ≡ whole
    → new ≡ done ++ record { name = symbol_name i; flags = 0; target = Offset (text_start + get_or ws i 0 % (size - text_start)) } ∷ [] → new ++ exports_from size (i + 1) (drop (i + 1) ws) ≡ whole
listed_exports size ws i done new whole lt so_far is =
    listed_more (exports_from size) (λ k w. record { name = symbol_name k; flags = 0; target = Offset (text_start + w % (size - text_start)) } ∷ []) (λ k w l. refl) i (i + 1) ws i done new whole (let next : suc i ≡ i + 1 = omega arith in next) lt so_far is

-- opcodes, in the order of their pointers
pub listed_binds : (ordinal first : ℕ) (ws : List ℕ) (i : ℕ) (done new whole : List ℕ) → i < length ws → done ++ binds_from ordinal (first + i) (drop i ws) ≡ whole
    → new ≡ done ++ bind_opcodes ordinal (first + i) (get_or ws i 0 % 8) → new ++ binds_from ordinal (first + (i + 1)) (drop (i + 1) ws) ≡ whole
unfolding binds_from
listed_binds ordinal first ws i done new whole lt so_far is = listed_more (binds_from ordinal) (λ k w. bind_opcodes ordinal k (w % 8)) (λ k w l. refl) (first + i) (first + (i + 1)) ws i done new whole (let next : suc (first + i) ≡ first + (i + 1) = omega arith in next) lt so_far is

pub all_binds : (ordinal pointers n : ℕ) (ws : List ℕ) (i : ℕ) (done new : List ℕ) → length ws ≤ i → done ++ binds_from ordinal n (drop i ws) ≡ binds_from ordinal pointers ws → new ≡ done ++ 0 ∷ []
    → new ≡ bind_stream ordinal pointers ws
unfolding binds_from bind_stream
all_binds ordinal pointers n ws i done new le so_far is = is ∙ ap (λ (l : List ℕ). l ++ 0 ∷ []) (listed_all (binds_from ordinal) (λ _. refl) n ws i done _ le so_far)

pub listed_rebases : (n i : ℕ) (done new whole : List ℕ) → i < n → done ++ rebases_from i (n - i) ≡ whole → new ≡ done ++ rebase_opcodes i → new ++ rebases_from (i + 1) (n - (i + 1)) ≡ whole
unfolding rebases_from
listed_rebases n i done new whole lt so_far is =
    let left : n - i ≡ suc (n - (i + 1)) = omega arith in
    let next : suc i ≡ i + 1 = omega arith in
    made_more done new (rebase_opcodes i) (rebases_from i (n - i)) (rebases_from (i + 1) (n - (i + 1))) whole so_far
    (ap (λ (m : ℕ). rebases_from i m) left ∙ ap (λ (m : ℕ). rebase_opcodes i ++ rebases_from m (n - (i + 1))) next) is

pub all_rebases : (n i : ℕ) (done new : List ℕ) → n ≤ i → done ++ rebases_from i (n - i) ≡ 0x11 ∷ rebases_from 0 n → new ≡ done ++ 0 ∷ [] → new ≡ rebase_stream n
unfolding rebases_from rebase_stream
all_rebases n i done new le so_far is = let none : n - i ≡ 0 = omega arith in is ∙ ap (λ (l : List ℕ). l ++ 0 ∷ []) (made_all done _ _ so_far (ap (λ (m : ℕ). rebases_from i m) none))

pub words_bytes_length : (ws : List ℕ) → length (words_bytes ws) ≡ 4 * length ws
unfolding words_bytes
words_bytes_length [] = refl
words_bytes_length (w ∷ ws) =
    let all = length-append (little_bytes 4 w) (words_bytes ws) in
    let one = length-little_bytes 4 w in
    let rest = words_bytes_length ws in
    omega (arith, all, one, rest)
