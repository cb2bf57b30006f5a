-- Where the parts of a head lie: by the lengths of what spells them.
use Rattle.std.proofs.Common.{◌≡◌, ℕ, ◌+◌, ◌-◌, ◌≤◌, List, [], ◌∷◌, ◌++◌, length, drop, refl, sym, subst, ap, ◌∙◌, arith, append_assoc, length-append}
use Rattle.std.specs.Prelude.{All}
use Rattle.std.proofs.lemmas.List.{drop_at}
use Rattle.std.proofs.lemmas.List.Elements.{All-cons}
use Rattle.sip_words.proofs.Pieces.{behind, within, part_is}
use Rattle.sip_scan.specs.declared.Head.{Head}
use Rattle.sip_scan.specs.Field.{kind_of, IsField}
use Rattle.sip_scan.specs.Head.{LieFrom, HeadLiesIn}
use Rattle.sip_scan.specs.Grammar.{crlf, lines, FieldTree, field, field_place, fields, field_places, MessageTree, message, head_place}
use Rattle.sip_scan.proofs.HeadTakes.{Spelled}

-- what stands behind the first CRLF of a field
abbrev behind_first : FieldTree → List ℕ
behind_first t = crlf ++ lines t.more

-- a field is its name, the blanks, a colon, a line, a CRLF and more lines
field_length : (t : FieldTree) → length (field t) ≡ length t.name + length t.gap + 1 + length t.first + 2 + length (lines t.more)
field_length t = omega (arith, length-append t.name (t.gap ++ (58 ∷ (t.first ++ behind_first t))), length-append t.gap (58 ∷ (t.first ++ behind_first t)), length-append t.first (behind_first t), length-append crlf (lines t.more))

field_lies : (text : List ℕ) (i : ℕ) (t : FieldTree) (rest : List ℕ) → i ≤ length text → drop i text ≡ field t ++ rest → IsField text (field_place i t)
field_lies text i t rest le h =
    let len = field_length t in
    let name : drop i text ≡ t.name ++ ((t.gap ++ (58 ∷ (t.first ++ behind_first t))) ++ rest) = h ∙ append_assoc t.name (t.gap ++ (58 ∷ (t.first ++ behind_first t))) rest in
    record {
      name_first = refl;
      name = omega arith;
      colon = omega arith;
      value = omega (arith, len);
      end = omega (arith, len);
      within = within text i (field t) rest le h;
      kind = ap kind_of (sym (part_is text i t.name ((t.gap ++ (58 ∷ (t.first ++ behind_first t))) ++ rest) name));
    }

-- the fields lie one behind the other, each within the text
fields_lie : (text : List ℕ) (i : ℕ) (ts : List FieldTree) (rest : List ℕ) → i ≤ length text → drop i text ≡ fields ts ++ rest → LieFrom i (field_places i ts) (i + length (fields ts)) × All (IsField text) (field_places i ts)
fields_lie text i [] rest le h = (omega arith, λ k d lt. absurd (omega (arith, lt)))
fields_lie text i (t ∷ ts) rest le h =
    let next = i + length (field t) in
    let first : drop i text ≡ field t ++ (fields ts ++ rest) = h ∙ append_assoc (field t) (fields ts) rest in
    let inside : next ≤ length text = within text i (field t) (fields ts ++ rest) le first in
    let others = fields_lie text next ts rest inside (behind text i (field t) (fields ts ++ rest) first) in
    let end : next + length (fields ts) ≡ i + length (fields (t ∷ ts)) = omega (arith, length-append (field t) (fields ts)) in (
      (refl, subst (λ (j : ℕ). LieFrom next (field_places next ts) j) end others.0),
      All-cons (IsField text) (field_place i t) (field_places next ts) (field_lies text i t (fields ts ++ rest) le first) others.1,
    )

-- the part of a message in front of its fields, and its length
front_of : (t : MessageTree) → (w : List ℕ) × (message t ≡ w ++ (fields t.fields ++ (crlf ++ t.body))) × (length w ≡ length t.skipped + length t.start + 2)
front_of t =
    let rest = fields t.fields ++ (crlf ++ t.body) in (
      t.skipped ++ (t.start ++ crlf),
      sym (append_assoc t.skipped (t.start ++ crlf) rest ∙ ap (λ (xs : List ℕ). t.skipped ++ xs) (append_assoc t.start crlf rest)),
      omega (arith, length-append t.skipped (t.start ++ crlf), length-append t.start crlf),
    )

-- the parts of what spells a text, by their lengths
head_lies : (text : List ℕ) (t : MessageTree) → text ≡ message t → HeadLiesIn text (head_place t)
head_lies text t whole =
    let to = length t.skipped + length t.start in
    let rest = fields t.fields ++ (crlf ++ t.body) in
    let front = front_of t in
    let split : text ≡ front.0 ++ rest = whole ∙ front.1 in
    let at : drop (to + 2) text ≡ rest = ap (λ (xs : List ℕ). drop (to + 2) xs) split ∙ drop_at front.0 rest (to + 2) front.2 in
    let len : length text ≡ to + 2 + length (fields t.fields) + 2 + length t.body = omega (arith, ap length split, front.2, length-append front.0 rest, length-append (fields t.fields) (crlf ++ t.body), length-append crlf t.body) in
    let all = fields_lie text (to + 2) t.fields (crlf ++ t.body) (omega (arith, len)) at in
    let last : to + 2 + length (fields t.fields) ≡ (to + 2 + length (fields t.fields) + 2) - 2 = omega arith in
    record {
      start = record { order = omega arith; end = omega (arith, len) };
      fields = subst (λ (j : ℕ). LieFrom (to + 2) (field_places (to + 2) t.fields) j) last all.0;
      body_low = omega arith;
      body_high = omega (arith, len);
      each = all.1;
    }

-- where the parts of a head that the grammar spells lie
pub spelled_lies : (text : List ℕ) (h : Head) → Spelled text h → HeadLiesIn text h
spelled_lies text h is = subst (HeadLiesIn text) (sym is.3) (head_lies text is.0 is.2)
