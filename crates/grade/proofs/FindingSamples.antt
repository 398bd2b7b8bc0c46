-- Samples of `findings`, one table under one statement, which antt computes. Assumes nothing.
use Prim.Native.Nat.{ℕ}
use mathlib.Core.Path.{◌≡◌, refl}
use mathlib.Core.List.{List, [], ◌∷◌, ◌++◌, map}
use Rattle.hl7.specs.Text.{bytes}
use Rattle.hl7.specs.Bytes.{same, among, begins, is_in}
use Rattle.hl7.specs.Cut.{cut, ahead, but_last, start_at}
use Rattle.hl7.specs.Place.{delims_of, nth_of, cut_unless, part_of_field, never_cut, component_of, repetitions_of}
use Rattle.grade.specs.Rule.{the_end, msh, pid, pd1, nk1, pv1, orc, rxa, rxr, obx, nte, segment_names, number_from, name_of_letters}
use Rattle.grade.specs.Digits.{count_within, digit_run}
use Rattle.grade.specs.Calendar.{month_length, is_real_date}
use Rattle.grade.specs.Values.{is_date}
use Rattle.grade.specs.Order.{name_of, name_before, earlier, may_follow}
use Rattle.grade.specs.Broken.{is_value, broken, judges, breaks_rule}
use Rattle.grade.specs.Strict.{keep, count_from, pairs_from}
use Rattle.grade.specs.Findings.{order_finding, value_finding, findings}
use Rattle.grade.specs.declared.rule.Kind.{Kind}
use Rattle.grade.specs.declared.rule.Kind.TheVariants.{Required, Length, Date, Code}
use Rattle.grade.specs.declared.rule.Severity.{Severity}
use Rattle.grade.specs.declared.rule.Severity.TheVariants.{Error, Warning, Informational}
use Rattle.grade.specs.declared.rule.Rule.{Rule}
use Rattle.grade.specs.declared.finding.Finding.{Finding}

-- the ten names have the numbers that the order is stated with
names :
    map name_of
    (bytes "MSH" ∷ bytes "PID" ∷ bytes "PD1" ∷ bytes "NK1" ∷ bytes "PV1" ∷ bytes "ORC" ∷ bytes "RXA" ∷ bytes "RXR" ∷ bytes "OBX" ∷ bytes "NTE" ∷ [])
    ≡ msh ∷ pid ∷ pd1 ∷ nk1 ∷ pv1 ∷ orc ∷ rxa ∷ rxr ∷ obx ∷ nte ∷ []
unfolding name_of_letters segment_names number_from same
names = refl

-- the segments, each with its CR
abbrev message : List (List ℕ) → List ℕ
message [] = []
message (seg ∷ segs) = seg ++ (13 ∷ message segs)

abbrev rule : ℕ → ℕ → ℕ → Kind → Severity → Rule
rule segment field component kind severity = record { place = record { segment = segment; field = field; component = component }; kind = kind; severity = severity }

-- rule i is broken at a repetition of the number-th segment of its name
abbrev breach : ℕ → ℕ → ℕ → Rule → Finding
breach i ordinal repetition r = value_finding r.place.segment ordinal r i repetition

-- a section's rules, the segments of a message, and the findings
record Sample : Type 0 where
  rules : List Rule
  segments : List (List ℕ)
  gives : List Finding

abbrev unruled : List (List ℕ) → List Finding → Sample
unruled segments gives = record { rules = []; segments = segments; gives = gives }

abbrev long : Rule
long = rule pid 1 0 (Length 2 9) Warning

abbrev there : Rule
there = rule pid 1 1 Required Error

abbrev coded : Rule
coded = rule pid 2 2 (Code 1) Informational

abbrev header : Rule
header = rule msh 3 0 (Length 2 9) Error

abbrev dosed : Rule
dosed = rule rxa 1 0 Required Error

abbrev born : Rule
born = rule pid 7 1 Date Error

abbrev dated : Rule
dated = rule pid 7 1 Required Error

abbrev whole : Rule
whole = rule pid 1 0 Required Error

abbrev five : ℕ → Rule
five component = rule pid 1 component (Length 5 9) Error

abbrev deleting : Rule
deleting = rule pid 2 2 (Code 2) Warning

abbrev known : Rule
known = rule pid 3 1 Required Error

abbrev sexed : Rule
sexed = rule pid 8 0 Required Warning

-- the first segment of a message with the usual delimiters
abbrev usual : List ℕ
usual = bytes "MSH|^~\\&|"

abbrev table : List Sample
table =
    unruled (bytes "MSH" ∷ bytes "PID" ∷ bytes "ORC" ∷ bytes "ORC" ∷ bytes "RXA" ∷ []) (order_finding orc 2 ∷ [])
    ∷ unruled (bytes "MSH" ∷ bytes "PID" ∷ bytes "ORC" ∷ []) (order_finding the_end 0 ∷ [])
    ∷ unruled (bytes "MSH" ∷ bytes "ZZZ" ∷ bytes "PID" ∷ []) []
    ∷ unruled (bytes "MSH" ∷ bytes "PID" ∷ bytes "RXA" ∷ bytes "OBX" ∷ []) (order_finding rxa 1 ∷ [])
    -- a later MSH is out of order, and PID may follow it
    ∷ unruled (bytes "MSH" ∷ bytes "PID" ∷ bytes "MSH" ∷ bytes "PID" ∷ []) (order_finding msh 2 ∷ [])
    ∷ unruled (bytes "MSH" ∷ []) (order_finding the_end 0 ∷ [])
    ∷ unruled [] []
    -- every bad repetition, by its own number; the empty one is not judged
    ∷ record { rules = long ∷ []; segments = usual ∷ bytes "PID|x~~y" ∷ []; gives = breach 1 1 1 long ∷ breach 1 1 3 long ∷ [] }
    -- REQUIRED looks at repetition 1 alone, and at the component
    ∷ record { rules = there ∷ []; segments = usual ∷ bytes "PID|~x" ∷ []; gives = breach 1 1 1 there ∷ [] }
    ∷ record { rules = there ∷ []; segments = usual ∷ bytes "PID|^x~" ∷ []; gives = breach 1 1 1 there ∷ [] }
    ∷ record { rules = there ∷ []; segments = usual ∷ bytes "PID|x~" ∷ []; gives = [] }
    -- component 2 of each repetition is looked up in the first set, which holds A and B
    ∷ record { rules = coded ∷ []; segments = usual ∷ bytes "PID||A^B~B^b~C^~^C" ∷ []; gives = breach 1 1 2 coded ∷ breach 1 1 4 coded ∷ [] }
    -- the message's own delimiters cut it, and the usual ones do not
    ∷ record { rules = long ∷ []; segments = bytes "MSH!#$%'!" ∷ bytes "PID!x$$y$~|!" ∷ []; gives = breach 1 1 1 long ∷ breach 1 1 3 long ∷ [] }
    ∷ record { rules = coded ∷ []; segments = bytes "MSH|#~\\&|" ∷ bytes "PID||A#B~B#b~C#~#B^" ∷ []; gives = breach 1 1 2 coded ∷ breach 1 1 4 coded ∷ [] }
    -- an absent field has one empty repetition
    ∷ record { rules = born ∷ sexed ∷ []; segments = usual ∷ bytes "PID" ∷ []; gives = breach 2 1 1 sexed ∷ [] }
    -- two quotes as a birth date break REQUIRED alone; DATE judges a value that only begins with them
    ∷ record { rules = born ∷ dated ∷ []; segments = usual ∷ bytes "PID|||||||\"\"" ∷ []; gives = breach 2 1 1 dated ∷ [] }
    ∷ record { rules = born ∷ dated ∷ []; segments = usual ∷ bytes "PID|||||||\"\"20240229" ∷ []; gives = breach 1 1 1 born ∷ [] }
    -- what stands at the component: two quotes at component 1, four bytes at component 0
    ∷ record {
      rules = there ∷ whole ∷ five 1 ∷ five 0 ∷ [];
      segments = usual ∷ bytes "PID|\"\"^x" ∷ [];
      gives = breach 1 1 1 there ∷ breach 4 1 1 (five 0) ∷ [];
    }
    -- a middle repetition is passed; one quote, three, and two with a blank are not
    ∷ record { rules = five 0 ∷ []; segments = usual ∷ bytes "PID|\"~\"\"~\"\"\"~\"\" " ∷ []; gives = breach 1 1 1 (five 0) ∷ breach 1 1 3 (five 0) ∷ breach 1 1 4 (five 0) ∷ [] }
    ∷ record { rules = there ∷ []; segments = usual ∷ bytes "PID|\"\"~x" ∷ []; gives = breach 1 1 1 there ∷ [] }
    ∷ record { rules = there ∷ []; segments = usual ∷ bytes "PID|x~\"\"~y" ∷ []; gives = [] }
    -- passed by CODE, whether two quotes are out of the set or in it
    ∷ record {
      rules = coded ∷ deleting ∷ [];
      segments = usual ∷ bytes "PID||A^C~A^\"\"~A^\"\"\"" ∷ [];
      gives = breach 1 1 1 coded ∷ breach 1 1 3 coded ∷ breach 2 1 1 deleting ∷ breach 2 1 3 deleting ∷ [];
    }
    -- MSH-3 stands after the second bar
    ∷ record { rules = header ∷ []; segments = bytes "MSH|^~\\&|A~BB|C" ∷ bytes "PID" ∷ []; gives = breach 1 1 1 header ∷ [] }
    -- numbers count from the message's start; the order comes before the rules
    ∷ record {
      rules = dosed ∷ [];
      segments = usual ∷ bytes "PID" ∷ bytes "ORC" ∷ bytes "RXA|x" ∷ bytes "ORC" ∷ bytes "RXA" ∷ bytes "RXA" ∷ [];
      gives = breach 1 2 1 dosed ∷ order_finding rxa 3 ∷ breach 1 3 1 dosed ∷ [];
    }
    -- the paper's example
    ∷ record {
      rules = born ∷ known ∷ sexed ∷ [];
      segments = bytes "MSH|^~\\&|CAB|C1|REG|AX|20250113115900+0000||VXU^V04^VXU_V04|M1|P|2.5.1" ∷ bytes "PID|1||77||ROE^ANN||20240230" ∷ [];
      gives = breach 1 1 1 born ∷ breach 3 1 1 sexed ∷ [];
    }
    ∷ []

abbrev graded : Sample → List Finding
graded s = findings may_follow s.rules ((bytes "A" ∷ bytes "B" ∷ []) ∷ (bytes "\"\"" ∷ []) ∷ []) (message s.segments)

samples : map graded table ≡ map (λ (s : Sample). s.gives) table
unfolding findings keep count_from pairs_from name_before earlier is_in may_follow is_value broken judges breaks_rule
    segment_names number_from name_of_letters same among begins cut ahead but_last start_at delims_of nth_of cut_unless part_of_field never_cut component_of repetitions_of
    count_within digit_run month_length is_real_date is_date
samples = refl
