-- Laws of `specs/Command.antt`, `specs/Words.antt` and `specs/Reply.antt`, in the words of the code. Assumes nothing.
use mathlib.Core.Path.{◌≡◌, refl, sym, ap, ◌∙◌, subst}
use mathlib.Core.Bool.{Bool, true, false, cond, ◌&&◌}
use mathlib.Core.List.{List, [], ◌∷◌, ◌++◌}
use mathlib.Core.Logic.{⊎_elim}
use Prim.Native.Nat.{ℕ, ◌<◌, ◌≤◌}
use native.Mathlib.Omega.{arith}
use lib.Dec.{eqb}
use lib.ListN.{length, take, drop, take-append-drop}
use lib.Seq.{take_all, length-take-le}
use borrow.Author.Tests.{eq-eqb, ne_eqb}
use Rattle.hl7.specs.Text.{bytes}
use Rattle.hl7.specs.Bytes.{same}
use Rattle.ack.specs.Decimal.{decimal}
use Rattle.ack.specs.Splice.{limit, Wrote}
use Rattle.ack.proofs.Writing.{lt_or_ge, splice-at-start}
use Rattle.booktext.specs.Faults.{number_of, told_by, tell}
use Rattle.booktext.specs.declared.told.Row.{Row}
use Rattle.booktext.specs.declared.told.Fault.{Fault}
use Rattle.booktext.proofs.Telling.{row-some}
use Rattle.book.specs.declared.command.Command.{Command}
use Rattle.book.specs.declared.counts.Counts.{Counts}
use Rattle.book.specs.Command.{command_of}
use Rattle.book.specs.Counts.{sections_in}
use Rattle.book.specs.Reply.{line_text, refused_text, source_refused_text, compiled_text, told_text, book_refused_text, shown_text, legend_text, diff_text}
use Rattle.book.specs.Standing.{counts_of}

-- ---- the command line, by the tests of the code
module _ (count : ℕ) (verb : List ℕ) {first : Bool} (e : first ≡ same verb (bytes "compile")) where
  pub command_compile : (eqb count 4 && first) ≡ true → Command.Compile ≡ command_of count verb
  unfolding command_of
  command_compile t = rw (← e, t)

  module _ (f : (eqb count 4 && first) ≡ false) {second : Bool} (g : second ≡ same verb (bytes "check")) where
    pub command_check : (eqb count 3 && second) ≡ true → Command.Check ≡ command_of count verb
    unfolding command_of
    command_check t = rw (← e, f, ← g, t)

    module _ (h : (eqb count 3 && second) ≡ false) {third : Bool} (i : third ≡ same verb (bytes "show")) where
      pub command_show : (eqb count 3 && third) ≡ true → Command.Show ≡ command_of count verb
      unfolding command_of
      command_show t = rw (← e, f, ← g, h, ← i, t)

      module _ (j : (eqb count 3 && third) ≡ false) {fourth : Bool} (k : fourth ≡ same verb (bytes "legend")) where
        pub command_legend : (eqb count 3 && fourth) ≡ true → Command.Legend ≡ command_of count verb
        unfolding command_of
        command_legend t = rw (← e, f, ← g, h, ← i, j, ← k, t)

        module _ (l : (eqb count 3 && fourth) ≡ false) {fifth : Bool} (m : fifth ≡ same verb (bytes "diff")) where
          pub command_diff : (eqb count 4 && fifth) ≡ true → Command.Diff ≡ command_of count verb
          unfolding command_of
          command_diff t = rw (← e, f, ← g, h, ← i, j, ← k, l, ← m, t)

          pub command_unknown : (eqb count 4 && fifth) ≡ false → Command.Unknown ≡ command_of count verb
          unfolding command_of
          command_unknown t = rw (← e, f, ← g, h, ← i, j, ← k, l, ← m, t)

-- ---- a refusal
module _ (word : List ℕ) (line : ℕ) where
  pub line-none : line ≡ 0 → [] ≡ line_text word line
  unfolding line_text
  line-none e = rw (eq-eqb line 0 e)

  pub line-some : (line ≡ 0 → ⊥) → word ++ (32 ∷ decimal line) ≡ line_text word line
  unfolding line_text
  line-some e = rw (ne_eqb line 0 e)

-- ---- what was told, over an output
-- the output's first bytes stand there: writing them changes nothing
front-stands : (out : List ℕ) (n : ℕ) → length out < limit → n ≤ length out → Wrote out 0 (take n out) out (length (take n out))
front-stands out n room h =
    let taken : length (take n out) ≡ n = length-take-le n out h in
    record {
      room = room;
      holds = sym (splice-at-start out (take n out) (omega (arith, taken)) ∙ ap (λ (k : ℕ). take n out ++ drop k out) taken ∙ take-append-drop n out);
      ends = omega (arith, taken);
    }

pub made-stands : (size : ℕ) (out : List ℕ) {front : List ℕ} → front ≡ take size out → length out < limit → Wrote out 0 (take size out) out (length front)
made-stands size out is room =
    subst (λ (l : List ℕ). Wrote out 0 (take size out) out (length l)) (sym is)
    (⊎_elim
    (λ near. front-stands out size room (omega arith))
    (λ far.
    subst (λ (l : List ℕ). Wrote out 0 l out (length l)) (take_all (length out) out (omega arith) ∙ sym (take_all size out far)) (front-stands out (length out) room (omega arith)))
    (lt_or_ge size (length out)))

-- no other refusal has the number of the output's
other_row : (row : Row) → (row ≡ Row.ShortOutput → ⊥) → eqb (number_of row) 55 ≡ false
other_row Row.Malformed n = refl
other_row Row.OtherVersion n = refl
other_row Row.LongText n = refl
other_row Row.WrongByte n = refl
other_row Row.UnknownStatement n = refl
other_row Row.Misplaced n = refl
other_row Row.WordCount n = refl
other_row Row.WrongVersion n = refl
other_row Row.WrongKey n = refl
other_row Row.WrongCode n = refl
other_row Row.WrongPlace n = refl
other_row Row.WrongKind n = refl
other_row Row.WrongSeverity n = refl
other_row Row.WrongBound n = refl
other_row Row.NameTaken n = refl
other_row Row.SectionCount n = refl
other_row Row.UnknownName n = refl
other_row Row.UsedTwice n = refl
other_row Row.RuleStands n = refl
other_row Row.NoRule n = refl
other_row Row.WrongChange n = refl
other_row Row.RuleCount n = refl
other_row Row.SetCount n = refl
other_row Row.StraySet n = refl
other_row Row.CodeCount n = refl
other_row Row.LongBook n = refl
other_row Row.ShortOutput n = absurd (n refl)
other_row Row.StatementCount n = refl

module _ (f : Fault) where
  pub source-output : f.row ≡ Row.ShortOutput → refused_text (number_of f.row) 0 f.section ≡ source_refused_text (told_by f)
  unfolding source_refused_text
  source-output e = rw e refl

  pub source-other : (f.row ≡ Row.ShortOutput → ⊥) → refused_text (number_of f.row) f.detail f.section ≡ source_refused_text (told_by f)
  unfolding source_refused_text
  source-other n = rw (other_row f.row n) refl

module _ (f : Fault) (output : List ℕ) where
  some : eqb (number_of f.row) 0 ≡ false
  some = ne_eqb (number_of f.row) 0 (row-some f.row)

  pub told-refused : source_refused_text (told_by f) ≡ told_text (told_by f) output
  unfolding told_text
  told-refused = rw some refl

  pub shown-refused : book_refused_text (number_of f.row) [] ≡ shown_text (told_by f) output
  unfolding shown_text
  shown-refused = rw some refl

  pub legend-refused : source_refused_text (told_by f) ≡ legend_text (told_by f) output
  unfolding legend_text
  legend-refused = rw some refl

  pub diff_long : f.row ≡ Row.ShortOutput → source_refused_text (told_by f) ≡ diff_text (told_by f) output
  unfolding diff_text
  diff_long e = rw e refl

  module _ (n : f.row ≡ Row.ShortOutput → ⊥) where
    pub diff_old : f.detail ≡ 1 → book_refused_text (number_of f.row) (bytes " old") ≡ diff_text (told_by f) output
    unfolding diff_text
    diff_old e = rw (some, other_row f.row n, eq-eqb f.detail 1 e) refl

    pub diff_new : (f.detail ≡ 1 → ⊥) → book_refused_text (number_of f.row) (bytes " new") ≡ diff_text (told_by f) output
    unfolding diff_text
    diff_new e = rw (some, other_row f.row n, ne_eqb f.detail 1 e) refl

pub told-compiled : (size : ℕ) (output : List ℕ) {book : List ℕ} → book ≡ take size output → {c : Counts} → c ≡ counts_of (sections_in book) → compiled_text size c.sections c.rules c.sets ≡ told_text (tell 0 size 0) output
unfolding told_text
told-compiled size output made is = rw (is, made) refl
