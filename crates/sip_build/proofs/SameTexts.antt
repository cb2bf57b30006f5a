-- Lists of edits that make the same of every text, and the texts that follow.
use Rattle.std.proofs.Common.{◌≡◌, ℕ, ◌+◌, ◌==◌, Bool, true, false, List, [], ◌∷◌, ◌++◌, take, refl, sym, ap, ◌∙◌, arith, append_assoc, subst}
use Rattle.std.specs.Prelude.{◌||◌, if◌then◌else◌, codes}
use Rattle.std.specs.List.{filter, flat_map}
use Rattle.std.proofs.lemmas.List.{append-nil}
use Rattle.std.proofs.lemmas.List.Concat.{flat_map-append}
use Rattle.std.proofs.lemmas.List.Folds.{list_any-append}
use Rattle.std.proofs.lemmas.Grind.{common_steps}
use Rattle.sip_words.specs.declared.Span.{Span}
use Rattle.sip_scan.specs.declared.field.HeaderSpan.{HeaderSpan}
use Rattle.msg_edits.specs.declared.parts.Edit.{Edit}
use Rattle.msg_edits.specs.declared.parts.Edit.TheVariants.{Cut, Insert}
use Rattle.msg_edits.specs.Edited.{text_at, cuts_byte, edited_from, edited}
use Rattle.msg_edits.proofs.Grown.{same_from, same_edited}
use Rattle.sip_scan.specs.declared.field.Kind.TheVariants as kind
use Rattle.sip_msg.specs.declared.message.Message.{Message}
use Rattle.sip_msg.specs.Fields.{is_of, first}
use Rattle.numerals.specs.Numerals.{socket}
use Rattle.outside_ports.specs.declared.port.Addr.{Addr}
use Rattle.sip_build.specs.Parts.{part, edited_field, uri_of, routes, place_of}
use Rattle.sip_build.specs.Stamp.{stamp}
use Rattle.sip_build.specs.Relayed.{without_top_via, relayed_text}
use Rattle.sip_build.specs.Forwarded.{replaced, via_line, with_hops, forwarding, forwarded_text}
use Rattle.sip_build.specs.declared.stamp.Stamp.{Stamp}
use Rattle.sip_build.specs.declared.forwarding.Hops.{Hops}
use Rattle.msg_edits.specs.Writing.{SameEdits}
use Rattle.sip_build.specs.Writing.{edits_of_stamp, edits_of_hops}

pub same : (xs : List Edit) → SameEdits xs xs
same xs = record { inserts = λ i. refl; cuts = λ i. refl }

pub together : {a b c d : List Edit} → SameEdits a b → SameEdits c d → SameEdits (a ++ c) (b ++ d)
together {a} {b} {c} {d} h k = record {
  inserts = λ i. flat_map-append (text_at i) a c ∙ rw (h.inserts i, k.inserts i) (sym (flat_map-append (text_at i) b d));
  cuts = λ i. list_any-append (cuts_byte i) a c ∙ rw (h.cuts i, k.cuts i) (sym (list_any-append (cuts_byte i) b d));
}

pub same_fields : (b : List ℕ) (xs ys : List Edit) → SameEdits xs ys → (fields : List HeaderSpan) → flat_map (edited_field b xs) fields ≡ flat_map (edited_field b ys) fields
same_fields b xs ys h [] = refl
same_fields b xs ys h (f ∷ fields) = rw (same_from xs ys h f.whole.from (part b f.whole), same_fields b xs ys h fields) refl

pub none_from : (i : ℕ) (bytes : List ℕ) → edited_from [] i bytes ≡ bytes
none_from i [] = refl
none_from i (b ∷ bytes) = ap (λ (t : List ℕ). b ∷ t) (none_from (i + 1) bytes)

-- a cut of no byte does nothing
no_byte : (at i : ℕ) → cuts_byte i (Cut (record { from = at; to = at })) ≡ false
no_byte at i = grind (arith, common_steps)

none_of_three : (b : Bool) → b ≡ false → (b || (b || (b || false))) ≡ false
none_of_three true h = absurd (cc)
none_of_three false h = refl

unchanged : List Edit
unchanged = Cut (record { from = 0; to = 0 }) ∷ Cut (record { from = 0; to = 0 }) ∷ Cut (record { from = 0; to = 0 }) ∷ []

unchanged_is : SameEdits unchanged []
unfolding unchanged
unchanged_is = record { inserts = λ i. refl; cuts = λ i. none_of_three (cuts_byte i (Cut (record { from = 0; to = 0 }))) (no_byte 0 i) }

unchanged_fields : (b : List ℕ) (fields : List HeaderSpan) → flat_map (edited_field b []) fields ≡ flat_map (λ (f : HeaderSpan). part b f.whole) fields
unchanged_fields b [] = refl
unchanged_fields b (f ∷ fields) = rw (none_from f.whole.from (part b f.whole), unchanged_fields b fields) refl

pub routes_are : (b : List ℕ) (fields : List HeaderSpan) → flat_map (edited_field b (Cut (record { from = 0; to = 0 }) ∷ Cut (record { from = 0; to = 0 }) ∷ Cut (record { from = 0; to = 0 }) ∷ [])) (filter (is_of kind.Route) fields) ≡ routes b fields
unfolding unchanged
routes_are b fields = same_fields b unchanged [] unchanged_is (filter (is_of kind.Route) fields) ∙ unchanged_fields b (filter (is_of kind.Route) fields)

-- a text in three pieces
one_text : (b : Bool) (x y z : List ℕ) → (if b then x ++ (y ++ z) else []) ++ [] ≡ (if b then x else []) ++ ((if b then y else []) ++ ((if b then z else []) ++ []))
one_text true x y z = simp (append_assoc, append-nil)
one_text false x y z = refl

pub in_three : (place : ℕ) (x y z : List ℕ) → SameEdits (Insert place x ∷ Insert place y ∷ Insert place z ∷ []) (Insert place (x ++ (y ++ z)) ∷ [])
in_three place x y z = record { inserts = λ i. sym (one_text (place == i) x y z); cuts = λ i. refl }

pub relayed_is : (b : List ℕ) (m : Message) (edits : List Edit) (cut : Span) → SameEdits (Cut cut ∷ []) (without_top_via m) → edited (take m.end b) (Cut cut ∷ edits) ≡ relayed_text b m edits
unfolding relayed_text
relayed_is b m edits cut h = same_edited (Cut cut ∷ edits) (without_top_via m ++ edits) (together h (same edits)) (take m.end b)

-- the line Via in three pieces
line_pieces : (a at b branch crlf : List ℕ) → (a ++ (at ++ b)) ++ (branch ++ crlf) ≡ a ++ (at ++ (b ++ (branch ++ crlf)))
line_pieces a at b branch crlf = simp append_assoc

line_is : (place : ℕ) (listen : Addr) (front piece branch : List ℕ) → front ++ (piece ++ codes "\r\n") ≡ via_line listen branch → SameEdits (Insert place front ∷ Insert place piece ∷ Insert place (codes "\r\n") ∷ []) (Insert place (via_line listen branch) ∷ [])
line_is place listen front piece branch e =
    let three = in_three place front piece (codes "\r\n") in
    subst (λ (t : List ℕ). SameEdits (Insert place front ∷ Insert place piece ∷ Insert place (codes "\r\n") ∷ []) (Insert place t ∷ [])) e three

-- the front of the line, and the branch or what is left of it behind a mark
pub line_by : (listen : Addr) (front branch : List ℕ) → front ≡ codes "Via: SIP/2.0/UDP " ++ (socket listen ++ (codes ";branch=" ++ [])) → front ++ (branch ++ codes "\r\n") ≡ via_line listen branch
line_by listen front branch e = ap (λ (t : List ℕ). t ++ (branch ++ codes "\r\n")) e ∙ line_pieces (codes "Via: SIP/2.0/UDP ") (socket listen) (codes ";branch=") branch (codes "\r\n")

mark_pieces : (a at b mark branch crlf : List ℕ) → (a ++ (at ++ (b ++ mark))) ++ (branch ++ crlf) ≡ a ++ (at ++ (b ++ ((mark ++ branch) ++ crlf)))
mark_pieces a at b mark branch crlf = simp append_assoc

pub line_by_mark : (listen : Addr) (front mark token : List ℕ) → front ≡ codes "Via: SIP/2.0/UDP " ++ (socket listen ++ (codes ";branch=" ++ mark)) → front ++ (token ++ codes "\r\n") ≡ via_line listen (mark ++ token)
line_by_mark listen front mark token e = ap (λ (t : List ℕ). t ++ (token ++ codes "\r\n")) e ∙ mark_pieces (codes "Via: SIP/2.0/UDP ") (socket listen) (codes ";branch=") mark token (codes "\r\n")

-- what a forwarded request becomes by the changes that are made for it
pub forwarded_is : (b : List ℕ) (m : Message) (source : Addr) (edits : List Edit) (uri : List ℕ) (listen : Addr) (branch : List ℕ) (absent : ℕ) (s : Stamp) (h : Hops) (front piece : List ℕ) (made : List Edit)
    → SameEdits (edits_of_stamp s) (stamp m.via source)
    → front ++ (piece ++ codes "\r\n") ≡ via_line listen branch
    → SameEdits (edits_of_hops h) (with_hops b (first kind.MaxForwards m.head.fields.items) m.max_forwards m.head.body absent)
    → made ≡ edits_of_stamp s ++ (replaced (uri_of m.start) uri ++ ((Insert (place_of (first kind.Via m.head.fields.items) (m.head.start.to + 2)) front ∷ Insert (place_of (first kind.Via m.head.fields.items) (m.head.start.to + 2)) piece ∷ Insert (place_of (first kind.Via m.head.fields.items) (m.head.start.to + 2)) (codes "\r\n") ∷ []) ++ edits_of_hops h))
    → edited (take m.end b) (made ++ edits) ≡ forwarded_text b m source edits uri listen branch absent
unfolding forwarding forwarded_text
forwarded_is b m source edits uri listen branch absent s h front piece made hs hf hh e =
    let place = place_of (first kind.Via m.head.fields.items) (m.head.start.to + 2) in
    let lines = together (line_is place listen front piece branch hf) hh in
    let back = together (same (replaced (uri_of m.start) uri)) lines in
    let whole = together (together hs back) (same edits) in
    rw e (same_edited _ (forwarding b m source uri listen branch absent ++ edits) whole (take m.end b))
