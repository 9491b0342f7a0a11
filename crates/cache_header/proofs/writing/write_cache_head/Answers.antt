use Rattle.std.proofs.Common.{◌∙◌, ◌++◌, ap, ℕ, List}
use Rattle.cache_header.specs.Reading.{head_read}
use Rattle.cache_header.specs.Findings.{head_finding}
use Rattle.cache_header.proofs.Back.{head_read_back, head_sound}
use Rattle.cache_header.proofs.writing.write_cache_head.Goals as goal

pub returns-clause-read_back : goal.returns-clause-read_back
returns-clause-read_back c = λ rest.
    ap (λ (l : List ℕ). head_read (l ++ rest)) c.in_ok-bytes.ensures.bytes ∙ head_read_back c.args.head.now rest c.requires c.in_ok-bytes.ensures.fits

pub returns-clause-sound : goal.returns-clause-sound
returns-clause-sound c = λ rest.
    ap (λ (l : List ℕ). head_finding (l ++ rest)) c.in_ok-bytes.ensures.bytes ∙ head_sound c.args.head.now rest c.requires c.in_ok-bytes.ensures.fits
