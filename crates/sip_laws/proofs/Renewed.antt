-- A list of fields in which some are new: what is read of it.
use Rattle.std.proofs.Common.{◌≡◌, ℕ, ◌≤◌, false, List, [], ◌∷◌, length, refl, sym, ap, ◌∙◌, arith, Option, Some, None, inl, inr}
use Rattle.std.specs.List.{find, count_by, AllByRecursion}
use Rattle.std.proofs.lemmas.Bool.{cases_Bool}
use Rattle.sip_fields.specs.declared.via.Via.{Via}
use Rattle.sip_fields.specs.Via.{via_at}
use Rattle.sip_scan.specs.declared.field.Kind.{Kind}
use Rattle.sip_scan.specs.declared.field.Kind.TheVariants as kind
use Rattle.sip_scan.specs.Field.{is_same_kind}
use Rattle.sip_scan.specs.Grammar.{FieldTree}
use Rattle.sip_msg.specs.Values.{whole_number, hops_at}
use Rattle.sip_build.proofs.Twins.{value_text}
use Rattle.sip_laws.proofs.Trees.{is_named, all_named, maybe, Fields, ListReads}
use Rattle.sip_laws.proofs.Hops.{filter_count}
use Rattle.sip_laws.proofs.Relaying.{some_count}

-- the first of a kind is the first of those of the kind
abbrev first_in : List FieldTree → Option FieldTree
first_in [] = None
first_in (t ∷ ts) = Some t

find_named : (k : Kind) (ts : List FieldTree) → find (is_named k) ts ≡ first_in (all_named k ts)
find_named k [] = refl
find_named k (t ∷ ts) = elim (cases_Bool (is_named k t)) [ inl y ↦ rw y refl | inr n ↦ rw n (find_named k ts) ]

pub same_find : (k : Kind) (ts us : List FieldTree) → all_named k us ≡ all_named k ts → find (is_named k) us ≡ find (is_named k) ts
same_find k ts us e = find_named k us ∙ ap first_in e ∙ sym (find_named k ts)

pub same_count : (k : Kind) (ts us : List FieldTree) → all_named k us ≡ all_named k ts → count_by (is_named k) us ≡ count_by (is_named k) ts
same_count k ts us e = sym (filter_count k us) ∙ ap (λ (x : List FieldTree). length x) e ∙ filter_count k ts

-- fields of two lists: those of other kinds than Via and Max-Forwards are the same
abbrev pub SameOthers : List FieldTree → List FieldTree → Type 0
SameOthers ts us = (k : Kind) → is_same_kind k kind.Via ≡ false → is_same_kind k kind.MaxForwards ≡ false → all_named k us ≡ all_named k ts

-- the same of all kinds that are read
abbrev pub SameKnown : List FieldTree → List FieldTree → Type 0
SameKnown ts us = (k : Kind) → is_same_kind k kind.Via ≡ false → is_same_kind k kind.MaxForwards ≡ false → is_same_kind k kind.Other ≡ false → all_named k us ≡ all_named k ts

-- what is new
pub record NewFields (us : List FieldTree) : Type 0 where
  pub via_field : FieldTree
  pub via : Via
  pub via_first : find (is_named kind.Via) us ≡ Some via_field
  pub via_reads : via_at (value_text via_field) 0 ≡ Some via
  pub hops : Option ℕ
  pub hops_read : maybe hops_at (find (is_named kind.MaxForwards) us) ≡ Some hops
  pub few_hops : count_by (is_named kind.MaxForwards) us ≤ 1
  pub lists : AllByRecursion ListReads us

abbrev pub renewed : (ts us : List FieldTree) (x : Fields ts) → SameKnown ts us → NewFields us → Fields us
renewed ts us x same n = record {
  via_field = n.via_field;
  via = n.via;
  via_first = n.via_first;
  via_reads = n.via_reads;
  from_field = x.from_field;
  from = x.from;
  from_first = same_find kind.From ts us (same kind.From refl refl refl) ∙ x.from_first;
  from_reads = x.from_reads;
  to_field = x.to_field;
  to = x.to;
  to_first = same_find kind.To ts us (same kind.To refl refl refl) ∙ x.to_first;
  to_reads = x.to_reads;
  call_field = x.call_field;
  call = x.call;
  call_first = same_find kind.CallId ts us (same kind.CallId refl refl refl) ∙ x.call_first;
  call_reads = x.call_reads;
  cseq_field = x.cseq_field;
  cseq = x.cseq;
  cseq_first = same_find kind.CSeq ts us (same kind.CSeq refl refl refl) ∙ x.cseq_first;
  cseq_reads = x.cseq_reads;
  hops = n.hops;
  hops_read = n.hops_read;
  size = x.size;
  size_read = ap (maybe (whole_number 10)) (same_find kind.ContentLength ts us (same kind.ContentLength refl refl refl)) ∙ x.size_read;
  lists = n.lists;
  some_via = some_count kind.Via us n.via_field n.via_first;
  one_from = same_count kind.From ts us (same kind.From refl refl refl) ∙ x.one_from;
  one_to = same_count kind.To ts us (same kind.To refl refl refl) ∙ x.one_to;
  one_call = same_count kind.CallId ts us (same kind.CallId refl refl refl) ∙ x.one_call;
  one_cseq = same_count kind.CSeq ts us (same kind.CSeq refl refl refl) ∙ x.one_cseq;
  few_hops = n.few_hops;
  few_sizes = let e = same_count kind.ContentLength ts us (same kind.ContentLength refl refl refl) in omega (arith, e, x.few_sizes);
}

-- Max-Forwards as it was
pub hops_stay : (ts us : List FieldTree) (x : Fields ts) → all_named kind.MaxForwards us ≡ all_named kind.MaxForwards ts → (maybe hops_at (find (is_named kind.MaxForwards) us) ≡ Some x.hops) × (count_by (is_named kind.MaxForwards) us ≤ 1)
hops_stay ts us x e = (ap (maybe hops_at) (same_find kind.MaxForwards ts us e) ∙ x.hops_read, let c = same_count kind.MaxForwards ts us e in omega (arith, c, x.few_hops))
