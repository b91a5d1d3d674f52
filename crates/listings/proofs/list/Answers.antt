use Rattle.std.proofs.Common.{[], ◌∷◌, ◌++◌, decimal, sym, refl, ◌∙◌, subst}
use Rattle.imports.specs.Cursors.{Ahead}
use Rattle.listings.proofs.Turns.{Sofar, one_more, no_more}
use Rattle.listings.proofs.list.Goals as goal

pub loop-posting-init : goal.loop-posting-init
loop-posting-init c ps told = record {
  before = [];
  after = ps;
  all = refl;
  ahead = subst (λ s. Ahead s ps) (sym c.into_iter-posting-iterator.ensures.into_iter_gives) (c.postings-posting-items.ensures ps told);
  shown = c.new-out.ensures.bytes;
}

pub loop-posting-preserved : goal.loop-posting-preserved
loop-posting-preserved c ps told =
    subst (Sofar ps c.next.new.self) (sym c.in_ok-list_posting.ensures)
    (one_more ps c.loop-posting.posting-iterator c.next.new.self _ _ (c.loop-posting.invariant ps told) c.in-Some.ensures.steps)

pub returns : goal.returns
returns c ps told =
    let shown = no_more ps c.loop-posting.posting-iterator c.next.new.self _ (c.loop-posting.invariant ps told) c.in-None.ensures.steps in
    let count = c.count.ensures.told ps told in
    let reach = c.reach.ensures.told ps told in
    let length = c.length.ensures.told ps told in
    c.in_ok-write.ensures.bytes
    ∙ (λ i. shown i ++ 76 ∷ 9 ∷ (decimal (count i) ++ 9 ∷ (decimal (reach i) ++ 9 ∷ (decimal (length i) ++ 10 ∷ []))))
