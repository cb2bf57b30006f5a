-- The grammar of a head (RFC 3261, sections 7, 7.3 and 25.1): trees, the text that each one spells, and where its parts stand.
use Rattle.std.specs.Prelude.{◌≡◌, ℕ, ◌+◌, ◌-◌, true, List, [], ◌∷◌, ◌++◌, length}
use Rattle.std.specs.List.{flat_map, AllByRecursion}
use Rattle.sip_words.specs.ByteNames.{LF, CR, COLON}
use Rattle.sip_words.specs.declared.bytes.Class.TheVariants.{Token}
use Rattle.sip_words.specs.Bytes.{is_wsp}
use Rattle.sip_words.specs.Grammar.{IsWord}
use Rattle.sip_words.specs.Spans.{span}
use Rattle.sip_scan.specs.declared.field.HeaderSpan.{HeaderSpan}
use Rattle.sip_scan.specs.declared.Head.{Head}
use Rattle.sip_scan.specs.Lines.{is_break, is_plain, speaks_sip}
use Rattle.sip_scan.specs.Field.{kind_of}
use Rattle.sip_scan.specs.Head.{head}

abbrev pub crlf : List ℕ
crlf = CR ∷ LF ∷ []

-- a line has neither NUL, nor CR, nor LF
abbrev pub IsLine : List ℕ → Type 0
IsLine line = AllByRecursion (λ b. is_plain b ≡ true) line

-- a continuation line begins with SP or HTAB
abbrev pub IsContinuation : List ℕ → Type 0
IsContinuation [] = ⊥
IsContinuation (b ∷ line) = (is_wsp b ≡ true) × IsLine line

-- lines, each with its CRLF
abbrev pub lines : List (List ℕ) → List ℕ
lines more = flat_map (λ line. line ++ crlf) more

-- name *(SP / HTAB) ":" value CRLF, the value being a line and its continuation lines
pub record FieldTree : Type 0 where
  pub name : List ℕ
  pub gap : List ℕ
  pub first : List ℕ
  pub more : List (List ℕ)

abbrev pub field : FieldTree → List ℕ
field t = t.name ++ (t.gap ++ (COLON ∷ (t.first ++ (crlf ++ lines t.more))))

pub record IsFieldTree (t : FieldTree) : Type 0 where
  pub name : IsWord Token t.name
  pub gap : AllByRecursion (λ b. is_wsp b ≡ true) t.gap
  pub first : IsLine t.first
  pub more : AllByRecursion IsContinuation t.more

-- the parts of a field that begins at i: the value is all between the colon and the last CRLF
abbrev pub field_place : ℕ → FieldTree → HeaderSpan
field_place i t =
    let name = i + length t.name in
    let end = i + length (field t) in
    record { kind = kind_of t.name; name = span i name; value = span (name + length t.gap + 1) (end - 2); whole = span i end }

abbrev pub fields : List FieldTree → List ℕ
fields ts = flat_map field ts

abbrev pub field_places : ℕ → List FieldTree → List HeaderSpan
field_places i [] = []
field_places i (t ∷ ts) = field_place i t ∷ field_places (i + length (field t)) ts

-- CR and LF in front, the start line, the header fields, an empty line, and the body
pub record MessageTree : Type 0 where
  pub skipped : List ℕ
  pub start : List ℕ
  pub fields : List FieldTree
  pub body : List ℕ

abbrev pub message : MessageTree → List ℕ
message t = t.skipped ++ (t.start ++ (crlf ++ (fields t.fields ++ (crlf ++ t.body))))

pub record IsMessageTree (t : MessageTree) : Type 0 where
  pub skipped : AllByRecursion (λ b. is_break b ≡ true) t.skipped
  pub start : IsLine t.start
  pub sip : speaks_sip t.start ≡ true
  pub fields : AllByRecursion IsFieldTree t.fields

-- where the parts of its head stand
abbrev pub head_place : MessageTree → Head
head_place t =
    let from = length t.skipped in
    let to = from + length t.start in
    head (span from to) (field_places (to + 2) t.fields) (to + 2 + length (fields t.fields) + 2)
