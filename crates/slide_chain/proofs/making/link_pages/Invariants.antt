use Rattle.std.proofs.Common.{◌≤◌, ◌-◌, ◌*◌, length, drop}
use Rattle.slide_chain.specs.Making.{page_firsts}
use Rattle.slide_chain.proofs.MakeLaws.{PagesGo}
use Rattle.slide_chain.proofs.making.link_pages.Given as goal

-- the words passed are those of the pages passed
abbrev pub invariant-loop-page : goal.invariant-loop-page
invariant-loop-page l = record {
  inside : l.passed ≤ length l.words;
  go : PagesGo l.limit (page_firsts l.limit 0 l.pages l.words) l.starts.items l.extras.items (l.page * 4096) (l.pages - l.page) (drop l.passed l.words);
}
