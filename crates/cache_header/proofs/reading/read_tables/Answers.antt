use Rattle.cache_header.specs.Reading.{head_read}
use Rattle.cache_header.proofs.reading.read_tables.Goals as goal

pub returns-clause-head : goal.returns-clause-head
unfolding head_read
returns-clause-head c = λ i. record {
  mappings = (c.in_ok-mappings.ensures {u = tt} i);
  images = (c.in_ok-images.ensures.images i);
  slide_info = record { at = (c.field64.ensures i); len = (c.field64-2.ensures i) };
  uuid = (c.field_identifier.ensures i);
  max_slide = (c.field64-3.ensures i);
}
