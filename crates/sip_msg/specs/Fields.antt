-- The header fields by their kinds.
use Rattle.std.specs.Prelude.{◌≡◌, ℕ, ◌==◌, ◌<◌, Bool, cond, List, Option, None, nat_lt, slice_get, slice_index}
use Rattle.std.specs.List.{find, count_by}
use Rattle.sip_words.specs.Bytes.{◌or◌}
use Rattle.sip_scan.specs.Field.{field_kind_number, is_same_kind}
use Rattle.sip_scan.specs.declared.field.HeaderSpan.{HeaderSpan}
use Rattle.sip_scan.specs.declared.field.Kind.{Kind}
use Rattle.sip_scan.specs.declared.field.Kind.TheVariants as kind

unfoldable pub is_of : Kind → HeaderSpan → Bool
is_of k f = is_same_kind k f.kind

-- the first field of a kind, and how many there are; the fields of every other name are one kind, so `first Other` is
-- the first of them all
abbrev pub first : Kind → List HeaderSpan → Option HeaderSpan
first k fields = find (is_of k) fields

abbrev pub count : Kind → List HeaderSpan → ℕ
count k fields = count_by (is_of k) fields

-- the same of the kind with this number
abbrev pub first_of : ℕ → List HeaderSpan → Option HeaderSpan
first_of n fields = find (λ f. n == field_kind_number f.kind) fields

abbrev pub count_of : ℕ → List HeaderSpan → ℕ
count_of n fields = count_by (λ f. n == field_kind_number f.kind) fields

-- by the numbers of the kinds: how many of these fields there are, and the place of the first where there is one
pub record IsTally (fields : List HeaderSpan) (firsts counts : List ℕ) : Type 0 where
  pub counted : (n : ℕ) → n < 11 → slice_index counts n ≡ count_of n fields
  pub found : (n : ℕ) → n < 11 → cond (slice_index counts n == 0) None (slice_get fields (slice_index firsts n)) ≡ first_of n fields

-- Via, From, To, Call-ID or CSeq is absent
unfoldable pub is_missing : List HeaderSpan → Bool
is_missing fields =
    (count kind.Via fields == 0) or ((count kind.From fields == 0) or ((count kind.To fields == 0) or ((count kind.CallId fields == 0) or (count kind.CSeq fields == 0))))

-- From, To, Call-ID, CSeq, Max-Forwards or Content-Length stands twice
unfoldable pub is_repeated : List HeaderSpan → Bool
is_repeated fields =
    nat_lt 1 (count kind.From fields) or (nat_lt 1 (count kind.To fields) or (nat_lt 1 (count kind.CallId fields) or (nat_lt 1 (count kind.CSeq fields) or (nat_lt 1 (count kind.MaxForwards fields) or nat_lt 1 (count kind.ContentLength fields)))))
