-- How much slide information has.
use Rattle.std.proofs.Common.{◌≡◌, ◌≤◌, ◌<◌, ◌+◌, ◌*◌, ◌/◌, ◌^◌, ℕ, List, length, ap, ◌∙◌, sym, arith}
use Rattle.slide_chain.specs.Chains.{Slide}
use Rattle.slide_chain.specs.Info.{info_bytes, info_size}
use Rattle.slide_chain.specs.Making.{info_of}
use Rattle.slide_chain.proofs.SizeLaws.{length-starts, info_size-made}

pub few_starts : (s : Slide) (bits size : ℕ) (ws : List ℕ) → s ≡ info_of bits size ws → size ≤ 0x20000000 → length s.starts < 2 ^ 30
few_starts s bits size ws made room =
    let long : length s.starts ≡ size / 4096 = ap (λ (t : Slide). length t.starts) made ∙ length-starts bits size ws in
    omega (arith, long, room)

pub small_info : (s : Slide) (bits size : ℕ) (ws bytes : List ℕ) → s ≡ info_of bits size ws → length s.extras ≤ 0x4000 → size ≤ 0x20000000 → bytes ≡ info_bytes s → length bytes ≤ 0x20000000
small_info s bits size ws bytes made few room told =
    let long : length bytes ≡ 40 + 2 * (size / 4096 + length (info_of bits size ws).extras) = ap (λ (b : List ℕ). length b) told ∙ (ap info_size made ∙ info_size-made bits size ws) in
    let extras : length (info_of bits size ws).extras ≡ length s.extras = ap (λ (t : Slide). length t.extras) (sym made) in
    omega (arith, long, extras, few, room)
