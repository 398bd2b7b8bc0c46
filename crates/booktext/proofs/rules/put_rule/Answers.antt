-- `booktext::rules::put_rule` meets its contract. A place, a kind, a letter and a bound are the rule's ten bytes. Assumes nothing.
use mathlib.Core.Path.{ap, sym, ◌∙◌}
use Rattle.booktext.specs.Words.{is_place}
use Rattle.booktext.proofs.Marking.{noted-first, noted_second, bound-word}
use Rattle.booktext.proofs.Ruling.{rule-place, rule-written}
use Rattle.booktext.proofs.rules.put_rule.Goals as goal

pub put_place-second-requires : goal.put_place-second-requires
put_place-second-requires c = ap is_place (c.word_of-3.ensures ∙ sym (noted-first _ _)) ∙ rule-place _ c.requires.0 c.requires.1

pub returns : goal.returns
returns c =
    rule-written _ c.requires.0 c.requires.1 _ (c.word_of-3.ensures ∙ sym (noted-first _ _)) (c.word_of.ensures ∙ sym (noted_second _ _)) c.kind_number-kind.ensures (c.word_of-first.ensures ∙ bound-word _ _ 0 (c.bound_at-bound.ensures c.requires.1)) c.set_number-set.ensures c.number_in-low.ensures (c.word_of-2.ensures ∙ bound-word _ _ 1 (c.bound_at-bound.ensures c.requires.1)) c.number_in-high.ensures
    c.letter_of.ensures c.put_place-second.ensures c.put_byte-third.ensures c.put_byte-fourth.ensures c.put_bound.ensures
