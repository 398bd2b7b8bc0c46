-- Laws of writing the lines of a rule. Assumes nothing.
use mathlib.Core.Path.{◌≡◌, refl, sym, ap, ap₂, ◌∙◌}
use mathlib.Core.Bool.{Bool, true, false, ◌&&◌}
use mathlib.Core.List.{List, [], ◌∷◌, ◌++◌, append-nil, append_assoc}
use Prim.Native.Char.{code}
use Prim.Native.Nat.{ℕ}
use lib.Dec.{eqb}
use borrow.Author.Tests.{eq-eqb, ne_eqb}
use native.Mathlib.Omega.{arith}
use Rattle.hl7.specs.Text.{bytes}
use Rattle.grade.specs.Rule.{severity_letter}
use Rattle.grade.specs.declared.rule.Kind.{Kind}
use Rattle.grade.specs.declared.rule.Rule.{Rule}
use Rattle.grade.specs.declared.rule.Severity.{Severity}
use Rattle.ack.specs.Decimal.{decimal}
use Rattle.ack.specs.Layout.{joined, marked}
use Rattle.ack.specs.Output.{Adds}
use Rattle.ack.specs.declared.output.Output.{Output}
use Rattle.ack.proofs.Adding.{adds_as, ◌next◌}
use Rattle.booktext.specs.Lines.{line_feed}
use Rattle.canonical.specs.Shown.{line_bytes, printed, place_word, kind_word}
use Rattle.canonical.proofs.Printing.{printed_both}
use Rattle.difference.specs.Difference.{severity_word, number_words, low_of, high_of, same_numbers, code_words, all_among, gone, rule_line, whole_line, unless, severity_lines, number_lines, code_lines, moved_lines, changes}

-- ---- words
marked_both : (ws vs : List (List ℕ)) → marked 32 (ws ++ vs) ≡ marked 32 ws ++ marked 32 vs
unfolding marked
marked_both [] vs = refl
marked_both (w ∷ ws) vs = ap (λ (l : List ℕ). 32 ∷ (w ++ l)) (marked_both ws vs) ∙ ap (λ (l : List ℕ). 32 ∷ l) (sym (append_assoc w (marked 32 ws) (marked 32 vs)))

pub numbers-same : (k l : Kind) {a b c d : ℕ} → a ≡ low_of k → b ≡ low_of l → c ≡ high_of k → d ≡ high_of l → (eqb a b && eqb c d) ≡ same_numbers k l
numbers-same k l e f g h = ap₂ ◌&&◌ (ap₂ eqb e f) (ap₂ eqb g h)

-- ---- a line
module _ (key : List ℕ) (mark n : ℕ) (rule : Rule) where
  -- how it begins
  abbrev pub head_bytes : List ℕ
  head_bytes = joined 32 (rule_line key mark n rule [])

  pub head-written : {o p q r s t u : Output}
      → Adds o key p → Adds p (32 ∷ []) q → Adds q (mark ∷ []) r → Adds r (32 ∷ decimal n) s → Adds s (32 ∷ place_word rule.place) t → Adds t (32 ∷ kind_word rule.kind) u
      → Adds o head_bytes u
  unfolding joined marked rule_line
  head-written v w x y z k = adds_as (v next w next x next y next z next k) (rw (append-nil (kind_word rule.kind)))

  -- how it goes on
  line-whole : (words : List (List ℕ)) → head_bytes ++ (marked 32 words ++ (line_feed ∷ [])) ≡ line_bytes (rule_line key mark n rule words)
  unfolding joined marked rule_line
  line-whole words = simp (append_assoc, append-nil)

  pub line-written : (words : List (List ℕ)) {tail : List ℕ} → tail ≡ marked 32 words ++ (line_feed ∷ []) → {o p q : Output}
      → Adds o head_bytes p → Adds p tail q → Adds o (line_bytes (rule_line key mark n rule words)) q
  line-written words e u v = adds_as (u next adds_as v e) (line-whole words)

  pub whole-written : (codes : List (List ℕ)) {o p q r s t : Output}
      → Adds o head_bytes p → Adds p (32 ∷ severity_letter rule.severity ∷ []) q → Adds q (marked 32 (number_words rule.kind)) r → Adds r (marked 32 (code_words mark codes)) s → Adds s (line_feed ∷ []) t
      → Adds o (line_bytes (whole_line key mark n rule codes)) t
  unfolding marked
  whole-written codes u v w x y = line-written (severity_word rule ∷ (number_words rule.kind ++ code_words mark codes)) tail-is u (v next w next x next y)
    where
      tail-is : (32 ∷ severity_letter rule.severity ∷ []) ++ (marked 32 (number_words rule.kind) ++ (marked 32 (code_words mark codes) ++ (line_feed ∷ [])))
          ≡ marked 32 (severity_word rule ∷ (number_words rule.kind ++ code_words mark codes)) ++ (line_feed ∷ [])
      tail-is = ap (λ (l : List ℕ). 32 ∷ severity_letter rule.severity ∷ l)
          (sym (append_assoc (marked 32 (number_words rule.kind)) (marked 32 (code_words mark codes)) (line_feed ∷ []))
          ∙ ap (λ (l : List ℕ). l ++ (line_feed ∷ [])) (sym (marked_both (number_words rule.kind) (code_words mark codes))))

-- ---- severities
pub letters_differ : (s t : Severity) → (s ≡ t → ⊥) → severity_letter s ≡ severity_letter t → ⊥
letters_differ Severity.Error Severity.Error n e = n refl
letters_differ Severity.Error Severity.Warning n e = omega (arith, e)
letters_differ Severity.Error Severity.Informational n e = omega (arith, e)
letters_differ Severity.Warning Severity.Error n e = omega (arith, e)
letters_differ Severity.Warning Severity.Warning n e = n refl
letters_differ Severity.Warning Severity.Informational n e = omega (arith, e)
letters_differ Severity.Informational Severity.Error n e = omega (arith, e)
letters_differ Severity.Informational Severity.Warning n e = omega (arith, e)
letters_differ Severity.Informational Severity.Informational n e = n refl

-- ---- a line, unless a test holds
pub unless-skipped : {test : Bool} (line : List (List ℕ)) → test ≡ true → [] ≡ printed (unless test line)
unfolding printed
unless-skipped line e = rw e

pub unless-written : {test : Bool} (line : List (List ℕ)) → test ≡ false → {o p : Output} → Adds o (line_bytes line) p → Adds o (printed (unless test line)) p
unfolding printed
unless-written line e w = adds_as w (rw e (sym (append-nil (line_bytes line))))

-- ---- what became of a rule
module _ (key : List ℕ) (n : ℕ) (r s : Rule) where
  module _ {a b : ℕ} (is : a ≡ severity_letter r.severity) (was : b ≡ severity_letter s.severity) where
    pub severity_same : a ≡ b → [] ≡ printed (severity_lines key n r s)
    severity_same e = unless-skipped _ (eq-eqb (severity_letter r.severity) (severity_letter s.severity) (sym is ∙ e ∙ was))

    pub severity_other : (a ≡ b → ⊥) → {o p q t u v : Output}
        → Adds o (head_bytes key (code "~") n r) p → Adds p (32 ∷ severity_letter r.severity ∷ []) q → Adds q (bytes " ->") t → Adds t (32 ∷ severity_letter s.severity ∷ []) u → Adds u (line_feed ∷ []) v
        → Adds o (printed (severity_lines key n r s)) v
    unfolding marked
    severity_other other u v w x y =
        let words = severity_word r ∷ bytes "->" ∷ severity_word s ∷ [] in
        unless-written _ (ne_eqb (severity_letter r.severity) (severity_letter s.severity) (λ e. other (is ∙ e ∙ sym was)))
        (line-written key (code "~") n r words refl u (v next w next x next y))

  pub numbers_other : same_numbers r.kind s.kind ≡ false → {o p q t u v : Output}
      → Adds o (head_bytes key (code "~") n r) p → Adds p (marked 32 (number_words r.kind)) q → Adds q (bytes " ->") t → Adds t (marked 32 (number_words s.kind)) u → Adds u (line_feed ∷ []) v
      → Adds o (printed (number_lines key n r s)) v
  unfolding marked
  numbers_other other u v w x y = unless-written _ other (line-written key (code "~") n r (number_words r.kind ++ (bytes "->" ∷ number_words s.kind)) tail-is u (v next w next x next y))
    where
      tail-is : marked 32 (number_words r.kind) ++ (bytes " ->" ++ (marked 32 (number_words s.kind) ++ (line_feed ∷ []))) ≡ marked 32 (number_words r.kind ++ (bytes "->" ∷ number_words s.kind)) ++ (line_feed ∷ [])
      tail-is =
          sym (append_assoc (marked 32 (number_words r.kind)) (marked 32 (bytes "->" ∷ number_words s.kind)) (line_feed ∷ []))
          ∙ ap (λ (l : List ℕ). l ++ (line_feed ∷ [])) (sym (marked_both (number_words r.kind) (bytes "->" ∷ number_words s.kind)))

module _ (key : List ℕ) (n : ℕ) (r : Rule) where
  module _ (codes others : List (List ℕ)) {kept known : Bool} (e : kept ≡ all_among codes others) (f : known ≡ all_among others codes) where
    pub codes_same : (kept && known) ≡ true → [] ≡ printed (code_lines key n r codes others)
    codes_same t = unless-skipped _ (sym (ap₂ ◌&&◌ e f) ∙ t)

    pub codes_other : (kept && known) ≡ false → {o p q s u : Output}
        → Adds o (head_bytes key (code "~") n r) p → Adds p (marked 32 (code_words (code "-") (gone codes others))) q → Adds q (marked 32 (code_words (code "+") (gone others codes))) s → Adds s (line_feed ∷ []) u
        → Adds o (printed (code_lines key n r codes others)) u
    codes_other t u v w x =
        let less = code_words (code "-") (gone codes others) in
        let more = code_words (code "+") (gone others codes) in
        unless-written _ (sym (ap₂ ◌&&◌ e f) ∙ t)
        (line-written key (code "~") n r (less ++ more) (sym (append_assoc (marked 32 less) (marked 32 more) (line_feed ∷ [])) ∙ ap (λ (l : List ℕ). l ++ (line_feed ∷ [])) (sym (marked_both less more))) u (v next w next x))

  module _ (m : ℕ) where
    pub moved-not : n ≡ m → [] ≡ printed (moved_lines key n m r)
    moved-not e = unless-skipped _ (eq-eqb n m e)

    pub moved-written : (n ≡ m → ⊥) → {o p q s t u v w x : Output}
        → Adds o key p → Adds p (bytes " #") q → Adds q (32 ∷ decimal n) s → Adds s (bytes " ->") t → Adds t (32 ∷ decimal m) u → Adds u (32 ∷ place_word r.place) v → Adds v (32 ∷ kind_word r.kind) w → Adds w (line_feed ∷ []) x
        → Adds o (printed (moved_lines key n m r)) x
    unfolding joined marked
    moved-written other a b c d e f g h = unless-written _ (ne_eqb n m other) (adds_as (a next b next c next d next e next f next g next h) (simp (append_assoc, append-nil)))

    pub changes-written : (s : Rule) (codes others : List (List ℕ)) {o p q t u : Output}
        → Adds o (printed (severity_lines key n r s)) p → Adds p (printed (number_lines key n r s)) q → Adds q (printed (code_lines key n r codes others)) t → Adds t (printed (moved_lines key n m r)) u
        → Adds o (printed (changes key n m r s codes others)) u
    unfolding changes
    changes-written s codes others w x y z =
        let a = severity_lines key n r s in
        let b = number_lines key n r s in
        let c = code_lines key n r codes others in
        let d = moved_lines key n m r in
        adds_as (w next x next y next z)
        (sym (printed_both a (b ++ (c ++ d)) ∙ ap (λ (l : List ℕ). printed a ++ l) (printed_both b (c ++ d) ∙ ap (λ (l : List ℕ). printed b ++ l) (printed_both c d))))

-- ---- a section that one book has
pub lone_written : (mark : ℕ) (key : List ℕ) {o p q r s : Output} → Adds o (mark ∷ []) p → Adds p (bytes " section ") q → Adds q key r → Adds r (line_feed ∷ []) s
    → Adds o (line_bytes ((mark ∷ []) ∷ bytes "section" ∷ key ∷ [])) s
unfolding joined marked
lone_written mark key u v w x = adds_as (u next v next w next x) (simp append-nil)
