-- `booktext::fault::all_codes` meets its contract, by the invariant that stands beside this. Assumes nothing.
use mathlib.Core.Bool.{not}
use mathlib.Core.Path.{refl, ap, ◌∙◌}
use Rattle.grade.specs.Encoding.{text_fits}
use Rattle.booktext.proofs.Words.{words_fewer, words-all, words-not, words-later}
use Rattle.booktext.proofs.fault.all_codes.Goals as goal

pub loop-w-init : goal.loop-w-init
loop-w-init c = refl

pub returns-then-w : goal.returns-then-w
returns-then-w c = words-all (text_fits 20) _ c.loop-w.i c.loop-w.invariant c.next_word-w.ensures c.if-w.true

pub returns-then-not-is_text : goal.returns-then-not-is_text
returns-then-not-is_text c = words-not (text_fits 20) _ c.loop-w.i c.loop-w.invariant c.next_word-w.ensures c.if-w.false (c.is_text.ensures ∙ ap (text_fits 20) c.part.ensures) (ap not c.if-not-is_text.true)

pub loop-w-smaller : goal.loop-w-smaller
loop-w-smaller c = words_fewer c.next_word-w.ensures c.if-w.false

pub loop-w-preserved : goal.loop-w-preserved
loop-w-preserved c = words-later (text_fits 20) _ c.loop-w.i c.loop-w.invariant c.next_word-w.ensures c.if-w.false (c.is_text.ensures ∙ ap (text_fits 20) c.part.ensures) (ap not c.if-not-is_text.false)
