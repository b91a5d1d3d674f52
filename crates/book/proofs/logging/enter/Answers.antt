use Rattle.book.proofs.Laying.{laid_within}
use Rattle.book.proofs.logging.enter.Goals as goal

pub returns-then-grown-clause-laid : goal.returns-then-grown-clause-laid
returns-then-grown-clause-laid g c =
    let a = c.args in
    laid_within g.E.Entry.cell a.entry a.list.now a.base a.size a.used c.requires.within c.requires.few c.enter-grown.new.stretch c.requires.room c.enter-grown.ensures.laid

pub returns-else-grown-clause-laid : goal.returns-else-grown-clause-laid
returns-else-grown-clause-laid g c =
    let a = c.args in
    laid_within g.E.Entry.cell a.entry a.list.now a.base a.size a.used c.requires.within c.requires.few c.enter-grown.new.stretch c.requires.room c.enter-grown.ensures.laid
