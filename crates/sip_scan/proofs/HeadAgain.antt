-- What the grammar of a message spells is read.
use Rattle.std.proofs.Common.{◌≡◌, ℕ, ◌+◌, ◌==◌, true, false, List, [], ◌∷◌, ◌++◌, length, drop, refl, sym, subst, ap, ◌∙◌, inl, inr, arith, Some, append_assoc, length-append}
use Rattle.std.specs.List.{AllByRecursion}
use Rattle.std.proofs.lemmas.Bool.{cases_Bool, false≢true}
use Rattle.std.proofs.lemmas.List.{drop_at}
use Rattle.sip_words.specs.declared.bytes.Class.TheVariants.{Token}
use Rattle.sip_words.specs.declared.Span.{Span}
use Rattle.sip_words.specs.Bytes.{has, is_wsp}
use Rattle.sip_words.specs.Spans.{span}
use Rattle.sip_words.specs.Many.{Repeats}
use Rattle.sip_words.specs.Grammar.{IsWord}
use Rattle.sip_words.proofs.Pieces.{behind, part_is, stands_no, other_byte}
use Rattle.sip_words.proofs.ManyLaws.{repeats_many}
use Rattle.sip_scan.specs.Lines.{is_break, is_plain, is_crlf, skipped, begins_sip, speaks_sip, start_line}
use Rattle.sip_scan.specs.Field.{next_field, fields_at}
use Rattle.sip_scan.specs.Head.{head_behind, at_most_128, scanned}
use Rattle.sip_scan.specs.Grammar.{crlf, IsLine, FieldTree, field, IsFieldTree, field_place, fields, field_places, MessageTree, message, IsMessageTree, head_place}
use Rattle.sip_scan.proofs.Turns.{fields_advance, field_next, field_done, line_is, line_past}
use Rattle.sip_scan.proofs.Scanned.{line_first, behind_is}
use Rattle.sip_scan.proofs.FieldAgain.{run_len, crlf_at, line_again, NoBlank, field_again}

-- a field begins with a byte of a token
first_token : (t : FieldTree) → IsFieldTree t → (b : ℕ) × (rest : List ℕ) × (field t ≡ b ∷ rest) × (has Token b ≡ true)
first_token t is = go t.name (t.gap ++ (58 ∷ (t.first ++ (crlf ++ Rattle.sip_scan.specs.Grammar.lines t.more)))) is.name
  where
    go : (w x : List ℕ) → IsWord Token w → (b : ℕ) × (rest : List ℕ) × (w ++ x ≡ b ∷ rest) × (has Token b ≡ true)
    go [] x word = let none = word.some in absurd (omega arith)
    go (b ∷ w) x word = (b, w ++ x, refl, word.all.0)

token_blank : (b : ℕ) → has Token b ≡ true → is_wsp b ≡ false
unfolding has
token_blank b h = rw (other_byte Token 32 b refl h, other_byte Token 9 b refl h) refl

token_cr : (b : ℕ) → has Token b ≡ true → (b == 13) ≡ false
unfolding has
token_cr b h = other_byte Token 13 b refl h

no_blank : (ts : List FieldTree) (body : List ℕ) → AllByRecursion IsFieldTree ts → NoBlank (fields ts ++ (13 ∷ 10 ∷ body))
no_blank [] body all = refl
no_blank (t ∷ ts) body all =
    let first = first_token t all.0 in
    let whole : fields (t ∷ ts) ++ (13 ∷ 10 ∷ body) ≡ first.0 ∷ (first.1 ++ (fields ts ++ (13 ∷ 10 ∷ body))) = append_assoc (field t) (fields ts) (13 ∷ 10 ∷ body) ∙ ap (λ (w : List ℕ). w ++ (fields ts ++ (13 ∷ 10 ∷ body))) first.2 in
    subst NoBlank (sym whole) (token_blank first.0 first.3)

pub fields_again : (text : List ℕ) (i : ℕ) (ts : List FieldTree) (body : List ℕ) → drop i text ≡ fields ts ++ (13 ∷ 10 ∷ body) → AllByRecursion IsFieldTree ts → Repeats (next_field text) i (field_places i ts) (i + length (fields ts))
unfolding is_crlf
fields_again text i [] body h all = (field_done text i (crlf_at text i body h), omega arith)
fields_again text i (t ∷ ts) body h all =
    let rest = fields ts ++ (13 ∷ 10 ∷ body) in
    let whole : drop i text ≡ field t ++ rest = h ∙ append_assoc (field t) (fields ts) (13 ∷ 10 ∷ body) in
    let first = first_token t all.0 in
    let front : drop i text ≡ first.0 ∷ (first.1 ++ rest) = whole ∙ ap (λ (w : List ℕ). w ++ rest) first.2 in
    let not_crlf : is_crlf text i ≡ false = rw (stands_no 13 text i (first.0 ∷ (first.1 ++ rest)) front (token_cr first.0 first.3)) refl in
    let one = field_again text i t rest whole all.0 (no_blank ts body all.1) in
    let others = fields_again text (i + length (field t)) ts body (behind text i (field t) rest whole) all.1 in
    let len : i + length (field t) + length (fields ts) ≡ i + length (fields (t ∷ ts)) = omega (arith, length-append (field t) (fields ts)) in
    (i + length (field t), field_next text i (field_place i t) not_crlf one, subst (λ (j : ℕ). Repeats (next_field text) (i + length (field t)) (field_places (i + length (field t)) ts) j) len others)

plain_break : (b : ℕ) → is_plain b ≡ true → is_break b ≡ false
plain_break b h = elim (cases_Bool (is_break b)) [
  | inr f ↦ f
  | inl t ↦ elim (cases_Bool (b == 0)) [ inl z ↦ absurd (false≢true (rw z at h)) | inr nz ↦ absurd (false≢true (rw (nz, t) at h)) ]
]

no_start : speaks_sip [] ≡ false
unfolding speaks_sip begins_sip
no_start = refl

-- CR and LF in front are skipped up to the start line
skip_again : (w start rest : List ℕ) → AllByRecursion (λ b. is_break b ≡ true) w → IsLine start → speaks_sip start ≡ true → skipped (w ++ (start ++ rest)) ≡ length w
unfolding skipped
skip_again w [] rest all is sip = absurd (false≢true (sym no_start ∙ sip))
skip_again w (b ∷ start) rest all is sip = run_len is_break w b (start ++ rest) all (plain_break b is.0)

-- where the start line stands in a message
abbrev pub start_place : MessageTree → Span
start_place t = span (length t.skipped) (length t.skipped + length t.start)

at_start : (text : List ℕ) (t : MessageTree) → text ≡ message t → drop (length t.skipped) text ≡ t.start ++ (13 ∷ 10 ∷ (fields t.fields ++ (13 ∷ 10 ∷ t.body)))
at_start text t h = ap (λ (x : List ℕ). drop (length t.skipped) x) h ∙ drop_at t.skipped (t.start ++ (crlf ++ (fields t.fields ++ (crlf ++ t.body)))) (length t.skipped) refl

pub start_again : (text : List ℕ) (t : MessageTree) → IsMessageTree t → text ≡ message t → start_line text ≡ Some (start_place t)
unfolding start_line
start_again text t is h =
    let rest = 13 ∷ 10 ∷ (fields t.fields ++ (13 ∷ 10 ∷ t.body)) in
    let skip : skipped text ≡ length t.skipped = ap (λ (x : List ℕ). skipped x) h ∙ skip_again t.skipped t.start rest is.skipped is.start is.sip in
    let here = at_start text t h in
    let line = line_again text (length t.skipped) t.start (fields t.fields ++ (13 ∷ 10 ∷ t.body)) here is.start in
    let end = line_is text (length t.skipped) (length t.skipped + length t.start) line in
    let past = line_past text (length t.skipped) (length t.skipped + length t.start) line in
    let first = line_first (length t.start) text (length t.skipped) (length t.skipped + length t.start) end.0 refl end.1 past.1 in
    let part = part_is text (length t.skipped) t.start rest here in
    rw (skip, first, part, is.sip) refl

pub behind_again : (text : List ℕ) (t : MessageTree) → IsMessageTree t → text ≡ message t → head_behind text (start_place t) ≡ Some (head_place t)
unfolding fields_at
behind_again text t is h =
    let from = length t.skipped in
    let to = from + length t.start in
    let rest = fields t.fields ++ (13 ∷ 10 ∷ t.body) in
    let here = at_start text t h in
    let line = line_again text from t.start rest here is.start in
    let at_end = behind text from t.start (13 ∷ 10 ∷ rest) here in
    let next : drop (to + 2) text ≡ rest = behind text to crlf rest at_end in
    let all = fields_again text (to + 2) t.fields t.body next is.fields in
    let read : fields_at text (to + 2) ≡ Some (field_places (to + 2) t.fields, to + 2 + length (fields t.fields)) = repeats_many (length text) (next_field text) (to + 2) (field_places (to + 2) t.fields) (to + 2 + length (fields t.fields)) (fields_advance text) all in
    behind_is text (start_place t) to (field_places (to + 2) t.fields) (to + 2 + length (fields t.fields)) line read

-- what the grammar spells is read, or has too many fields
pub only_head : (text : List ℕ) (t : MessageTree) → IsMessageTree t → text ≡ message t → scanned text ≡ at_most_128 (head_place t)
unfolding scanned
only_head text t is h = rw (start_again text t is h, behind_again text t is h) refl
