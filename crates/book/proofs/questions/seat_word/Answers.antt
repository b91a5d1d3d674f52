use Rattle.std.proofs.Common.{◌*◌, ◌%◌, ◌^◌, bit_or, ◌∙◌, rules, tests}
use Rattle.std.proofs.lemmas.Iterator.Adapters.{YieldsList-from_rev_slice}
use Rattle.std.proofs.lemmas.Iterator.Consumers.{fold_from_yields_List}
use Rattle.book.specs.Questions.{seat_bit}
use Rattle.book.proofs.Counting.{word_folded}
use Rattle.book.proofs.questions.seat_word.Goals as goal

pub returns : goal.returns
returns g c =
    fold_from_yields_List _ (λ w x. bit_or ((w * 2 ^ 1) % 2 ^ 32) (seat_bit x.seated)) 0 _ c.fold.ensures.ran (YieldsList-from_rev_slice c.args.chairs.now (cc)) (λ a x b q k. search (rules, tests))
    ∙ word_folded (λ x. x.seated) c.args.chairs.now c.requires
