-- To be believed. A rule, and what its ten bytes say (01, "The rule book").
use Rattle.std.specs.Prelude.{ℕ, suc, Bool, true, false, cond, ◌&&◌, ◌||◌, List, [], ◌∷◌, eqb, leb, get_or, Option, Some, None}
use Prim.Native.Char.{code}
use Rattle.hl7.specs.Text.{bytes}
use Rattle.hl7.specs.Bytes.{within, same}
use Rattle.grade.specs.Limits.{segment_count, field_limit, component_limit}
use Rattle.grade.specs.declared.rule.Severity.{Severity}
use Rattle.grade.specs.declared.rule.Kind.{Kind}
use Rattle.grade.specs.declared.rule.Place.{Place}
use Rattle.grade.specs.declared.rule.Rule.{Rule}

-- ---- segments

-- The ten names that count. A name's number is its place here, from 1, so that a later name is appended and no number changes.
unfoldable pub segment_names : List (List ℕ)
segment_names =
    bytes "MSH" ∷ bytes "PID" ∷ bytes "PD1" ∷ bytes "NK1" ∷ bytes "PV1"
    ∷ bytes "ORC" ∷ bytes "RXA" ∷ bytes "RXR" ∷ bytes "OBX" ∷ bytes "NTE" ∷ []

-- the message's end has no name
abbrev pub the_end : ℕ
the_end = 0

abbrev pub msh : ℕ
msh = 1

abbrev pub pid : ℕ
pid = 2

abbrev pub pd1 : ℕ
pd1 = 3

abbrev pub nk1 : ℕ
nk1 = 4

abbrev pub pv1 : ℕ
pv1 = 5

abbrev pub orc : ℕ
orc = 6

abbrev pub rxa : ℕ
rxa = 7

abbrev pub rxr : ℕ
rxr = 8

abbrev pub obx : ℕ
obx = 9

abbrev pub nte : ℕ
nte = 10

-- the name of a number
unfoldable pub name_bytes : ℕ → List ℕ
name_bytes n = get_or ([] ∷ segment_names) n []

-- one of the ten
abbrev pub counted : ℕ → Bool
counted name = within 1 segment_count name

-- any other name
abbrev pub other_number : ℕ
other_number = 11

-- the place of a name among the names, which count from n
unfoldable pub number_from : ℕ → List ℕ → List (List ℕ) → ℕ
number_from n name [] = other_number
number_from n name (text ∷ texts) = cond (same name text) n (number_from (suc n) name texts)

-- the number of the name with these three letters
unfoldable pub name_of_letters : ℕ → ℕ → ℕ → ℕ
name_of_letters a b c = number_from msh (a ∷ b ∷ c ∷ []) segment_names

-- ---- places

-- for MSH the field is at least 3
abbrev pub first_field : ℕ → ℕ
first_field segment = cond (eqb segment msh) 3 1

-- the segment is one of the ten, the field at most 99, the component at most 20
unfoldable pub place_fits : Place → Bool
place_fits p =
    counted p.segment && within (first_field p.segment) field_limit p.field && leb p.component component_limit

-- ---- severity and kind

-- E, W or I
unfoldable pub severity_of : ℕ → Option Severity
severity_of letter =
    cond (eqb letter (code "E")) (Some Severity.Error)
    (cond (eqb letter (code "W")) (Some Severity.Warning)
    (cond (eqb letter (code "I")) (Some Severity.Informational)
    None))

-- the letter that stands for a severity
abbrev pub severity_letter : Severity → ℕ
severity_letter Severity.Error = code "E"
severity_letter Severity.Warning = code "W"
severity_letter Severity.Informational = code "I"

-- the kind with a number, made of the rule's last three bytes: set number, low, high
unfoldable pub kind_of : ℕ → ℕ → ℕ → ℕ → Option Kind
kind_of number set low high =
    cond (eqb number 1) (Some Kind.Required)
    (cond (eqb number 2) (Some (Kind.Length low high))
    (cond (eqb number 3) (Some Kind.Number)
    (cond (eqb number 4) (Some Kind.Date)
    (cond (eqb number 5) (Some (Kind.Time low))
    (cond (eqb number 6) (Some (Kind.Code set))
    None)))))

-- those of the three that a kind does not use are 0
abbrev pub unused_zero : Kind → ℕ → ℕ → ℕ → Bool
unused_zero Kind.Required set low high = eqb set 0 && eqb low 0 && eqb high 0
unused_zero (Kind.Length least most) set low high = eqb set 0
unused_zero Kind.Number set low high = eqb set 0 && eqb low 0 && eqb high 0
unused_zero Kind.Date set low high = eqb set 0 && eqb low 0 && eqb high 0
unused_zero (Kind.Time digits) set low high = eqb set 0 && eqb high 0
unused_zero (Kind.Code number) set low high = eqb low 0 && eqb high 0

-- the numbers of digits that a TIME may ask for
abbrev pub time_digits : ℕ → Bool
time_digits n = eqb n 4 || eqb n 6 || eqb n 8 || eqb n 10 || eqb n 12 || eqb n 14

-- a kind within its limits, in a section with so many sets
abbrev pub kind_fits : ℕ → Kind → Bool
kind_fits sets Kind.Required = true
kind_fits sets (Kind.Length low high) = within 1 high low
kind_fits sets Kind.Number = true
kind_fits sets Kind.Date = true
kind_fits sets (Kind.Time digits) = time_digits digits
kind_fits sets (Kind.Code set) = within 1 sets set

-- the error code follows from the kind alone
abbrev pub error_code : Kind → ℕ
error_code Kind.Required = 101
error_code (Kind.Length low high) = 102
error_code Kind.Number = 102
error_code Kind.Date = 102
error_code (Kind.Time digits) = 102
error_code (Kind.Code set) = 103

-- ---- rules

-- stands for a rule where there is none
abbrev pub no_rule : Rule
no_rule = record { place = record { segment = the_end; field = 0; component = 0 }; severity = Severity.Error; kind = Kind.Required }

-- a place, a severity and a kind
abbrev pub rule_with : Place → Option Severity → Option Kind → Option Rule
rule_with place (Some severity) (Some kind) =
    Some (record { place = place; severity = severity; kind = kind })
rule_with place (Some severity) None = None
rule_with place None kind = None

-- segment name (3), field, component
abbrev pub place_of : List ℕ → Place
place_of ten =
    record { segment = name_of_letters (get_or ten 0 0) (get_or ten 1 0) (get_or ten 2 0); field = get_or ten 3 0; component = get_or ten 4 0 }

-- the place, then kind, severity, set number, low, high
unfoldable pub rule_said : List ℕ → Option Rule
rule_said ten = rule_with (place_of ten) (severity_of (get_or ten 6 0)) (kind_of (get_or ten 5 0) (get_or ten 7 0) (get_or ten 8 0) (get_or ten 9 0))

-- a rule within its limits, in a section with so many sets
abbrev pub rule_fits : ℕ → Rule → Bool
rule_fits sets rule = place_fits rule.place && kind_fits sets rule.kind

abbrev pub rule_within : ℕ → List ℕ → Option Rule → Option Rule
rule_within sets ten (Some rule) = cond (rule_fits sets rule && unused_zero rule.kind (get_or ten 7 0) (get_or ten 8 0) (get_or ten 9 0)) (Some rule) None
rule_within sets ten None = None

-- what they say, where it is within its limits and the bytes that are not used are 0
unfoldable pub rule_of : ℕ → List ℕ → Option Rule
rule_of sets ten = rule_within sets ten (rule_said ten)

-- a rule was read
abbrev pub is_rule : Option Rule → Bool
is_rule (Some rule) = true
is_rule None = false
