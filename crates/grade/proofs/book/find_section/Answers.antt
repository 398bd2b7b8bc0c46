-- `grade::book::find_section` meets its contract: `find` looks for the key among the texts at the positions. Assumes nothing.
use Prim.Native.Nat.{ℕ, ◌<◌}
use borrow.Author.Rules.{rules}
use borrow.Author.Tests.{tests}
use native.Mathlib.Omega.{arith}
use mathlib.Core.Path.{◌≡◌, sym, ap, ◌∙◌}
use mathlib.Core.Bool.{true}
use mathlib.Core.List.{List}
use lib.ListN.{length, get_or}
use denote.Ref.{Bor}
use Rattle.std.specs.Option.{option_map}
use Rattle.std.proofs.lemmas.Iterator.{YieldsList-from_slice}
use Rattle.std.proofs.lemmas.Iterator.Search.{find_from_yields_List}
use Rattle.hl7.specs.Bytes.{all, same}
use Rattle.hl7.specs.Refusals.{first_row}
use Rattle.hl7.proofs.Comparing.{all-at}
use Rattle.grade.specs.Standing.{text_at, TextFits, stands_at}
use Rattle.grade.proofs.Parts.{stands-key}
use Rattle.grade.proofs.Opening.{opens-refused, opens_at}
use Rattle.grade.proofs.Starting.{serves_from_slice, sought, unsought}
use Rattle.grade.proofs.book.find_section.Goals as goal

texts_fit : (b starts : List ℕ) → all (stands_at b) starts ≡ true → (k : ℕ) → k < length starts → TextFits b (get_or starts k 0)
texts_fit b starts stands k h = (stands-key b _ (all-at (stands_at b) starts k stands h)).0

pub find-requires-clause-callable : goal.find-requires-clause-callable
find-requires-clause-callable c = serves_from_slice (TextFits c.args.book.now) (λ x q r. search rules) (λ x h. search rules) (rw c.iter.ensures.rest (texts_fit c.args.book.now c.args.starts.now c.requires))

pub site_at-requires : goal.site_at-requires
site_at-requires c =
    let a = c.args in
    (sought a.book.now a.key.now a.starts.now c.in-Some.at.now c.requires
    (sym (find_from_yields_List (λ at. same a.key.now (text_at a.book.now at)) _ _ c.find.result c.find.ensures.ran (YieldsList-from_slice a.starts.now cc) (λ x b q k. search (rules, tests)))
    ∙ ap (option_map (λ (at : Bor ℕ). at.now)) c.in-Some.is)).stands

pub returns-in-Some : goal.returns-in-Some
unfolding first_row
returns-in-Some c =
    let a = c.args in
    let w =
    sought a.book.now a.key.now a.starts.now c.in-Some.at.now c.requires
    (sym (find_from_yields_List (λ at. same a.key.now (text_at a.book.now at)) _ _ c.find.result c.find.ensures.ran (YieldsList-from_slice a.starts.now cc) (λ x b q k. search (rules, tests)))
    ∙ ap (option_map (λ (at : Bor ℕ). at.now)) c.in-Some.is) in
    opens_at (rw w.there) (c.site_at.ensures ∙ sym w.site)

pub returns-in-None : goal.returns-in-None
unfolding first_row
returns-in-None c =
    let a = c.args in
    let none =
    unsought a.book.now a.key.now a.starts.now
    (sym (find_from_yields_List (λ at. same a.key.now (text_at a.book.now at)) _ _ c.find.result c.find.ensures.ran (YieldsList-from_slice a.starts.now cc) (λ x b q k. search (rules, tests)))
    ∙ ap (option_map (λ (at : Bor ℕ). at.now)) c.in-None.is) in
    opens-refused (rw none) (λ e. omega (arith, e))
