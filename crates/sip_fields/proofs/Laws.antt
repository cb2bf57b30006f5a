-- What a reader answers is what the grammar spells, and nothing else.
use Rattle.std.proofs.Common.{◌≡◌, ℕ, ◌≤◌, List, length, take, length-take-le, refl, sym, subst, ap, ◌∙◌, arith, Option, Some, None, Result, Ok}
use Rattle.std.specs.Prelude.{IfOk}
use Rattle.std.proofs.lemmas.Option.{same_Some}
use Rattle.sip_fields.specs.declared.tail.Bad.{Bad}
use Rattle.sip_fields.specs.declared.via.Via.{Via}
use Rattle.sip_fields.specs.Tail.{or_bad}
use Rattle.sip_fields.specs.Via.{via_at}
use Rattle.sip_fields.specs.ViaGrammar.{IsViaAt}
use Rattle.sip_fields.specs.declared.cseq.CSeq.{CSeq}
use Rattle.sip_fields.specs.CSeq.{cseq_at}
use Rattle.sip_fields.specs.CSeqGrammar.{IsCSeqAt}
use Rattle.sip_fields.specs.declared.uri.Uri.{Uri}
use Rattle.sip_fields.specs.Uri.{uri_at}
use Rattle.sip_fields.specs.UriGrammar.{IsUriAt}
use Rattle.sip_fields.proofs.UriAgain.{uri_again}
use Rattle.sip_fields.proofs.UriTakes.{uri_takes}
use Rattle.sip_fields.specs.declared.name_addr.NameAddr.{NameAddr}
use Rattle.sip_fields.specs.NameAddr.{name_addr_at, route_at}
use Rattle.sip_fields.specs.NameAddrGrammar.{IsNameAddrAt, IsRouteAt}
use Rattle.sip_fields.proofs.NameAddrLaw.{name_addr_again, name_addr_takes, route_value_again, route_value_takes}
use Rattle.sip_fields.proofs.CSeqLaw.{cseq_again, cseq_takes}
use Rattle.sip_fields.proofs.ViaAgain.{via_again}
use Rattle.sip_fields.proofs.ViaTakes.{via_takes}

-- a span that lies in the bytes begins in the text up to its end
begins : (b : List ℕ) (from to : ℕ) → from ≤ to → to ≤ length b → from ≤ length (take to b)
begins b from to le within = let n = length-take-le to b within in omega arith

found_by : {A : Type 0} (P : A → Type 0) (o : Option A) (r : Result A Bad) → r ≡ or_bad o → ((v : A) → o ≡ Some v → P v) → IfOk r P
found_by {A} P o r h is = subst (λ (x : Result A Bad). IfOk x P) (sym h) (by_cases o is)
  where
    by_cases : (o : Option A) → ((v : A) → o ≡ Some v → P v) → IfOk (or_bad o) P
    by_cases None is = tt
    by_cases (Some v) is = is v refl

only_by : {A : Type 0} (o : Option A) (r : Result A Bad) (v : A) → r ≡ or_bad o → o ≡ Some v → r ≡ Ok v
only_by o r v h is = h ∙ ap or_bad is

pub via_found : (r : Result Via Bad) (b : List ℕ) (from to : ℕ) → r ≡ or_bad (via_at (take to b) from) → from ≤ to → to ≤ length b → IfOk r (IsViaAt (take to b) from)
via_found r b from to h le within = found_by (IsViaAt (take to b) from) (via_at (take to b) from) r h (λ v e. let t = via_takes (take to b) from v e in (t.0, t.1, t.2, same_Some _ _ (sym e ∙ via_again (take to b) from t.0 (begins b from to le within) t.2 t.1)))

pub via_only : (r : Result Via Bad) (b : List ℕ) (from to : ℕ) (v : Via) → r ≡ or_bad (via_at (take to b) from) → from ≤ to → to ≤ length b → IsViaAt (take to b) from v → r ≡ Ok v
via_only r b from to v h le within is = only_by (via_at (take to b) from) r v h (via_again (take to b) from is.0 (begins b from to le within) is.2 is.1 ∙ ap (λ (w : Via). Some w) (sym is.3))

pub cseq_found : (r : Result CSeq Bad) (b : List ℕ) (from to : ℕ) → r ≡ or_bad (cseq_at (take to b) from) → from ≤ to → to ≤ length b → IfOk r (IsCSeqAt (take to b) from)
cseq_found r b from to h le within = found_by (IsCSeqAt (take to b) from) (cseq_at (take to b) from) r h (λ v e. let t = cseq_takes (take to b) from v e in (t.0, t.1, t.2, same_Some _ _ (sym e ∙ cseq_again (take to b) from t.0 (begins b from to le within) t.2 t.1)))

pub cseq_only : (r : Result CSeq Bad) (b : List ℕ) (from to : ℕ) (c : CSeq) → r ≡ or_bad (cseq_at (take to b) from) → from ≤ to → to ≤ length b → IsCSeqAt (take to b) from c → r ≡ Ok c
cseq_only r b from to c h le within is = only_by (cseq_at (take to b) from) r c h (cseq_again (take to b) from is.0 (begins b from to le within) is.2 is.1 ∙ ap (λ (x : CSeq). Some x) (sym is.3))

pub uri_found : (r : Result Uri Bad) (b : List ℕ) (from to : ℕ) → r ≡ or_bad (uri_at (take to b) from) → from ≤ to → to ≤ length b → IfOk r (IsUriAt (take to b) from)
uri_found r b from to h le within = found_by (IsUriAt (take to b) from) (uri_at (take to b) from) r h (λ v e. let t = uri_takes (take to b) from v (begins b from to le within) e in (t.0, t.1, t.2, same_Some _ _ (sym e ∙ uri_again (take to b) from t.0 (begins b from to le within) t.2 t.1)))

pub uri_only : (r : Result Uri Bad) (b : List ℕ) (from to : ℕ) (u : Uri) → r ≡ or_bad (uri_at (take to b) from) → from ≤ to → to ≤ length b → IsUriAt (take to b) from u → r ≡ Ok u
uri_only r b from to u h le within is = only_by (uri_at (take to b) from) r u h (uri_again (take to b) from is.0 (begins b from to le within) is.2 is.1 ∙ ap (λ (x : Uri). Some x) (sym is.3))

pub name_addr_found : (r : Result NameAddr Bad) (b : List ℕ) (from to : ℕ) → r ≡ or_bad (name_addr_at (take to b) from) → from ≤ to → to ≤ length b → IfOk r (IsNameAddrAt (take to b) from)
name_addr_found r b from to h le within = found_by (IsNameAddrAt (take to b) from) (name_addr_at (take to b) from) r h (λ v e. let t = name_addr_takes (take to b) from v e in (t.0, t.1, t.2, same_Some _ _ (sym e ∙ name_addr_again (take to b) from t.0 (begins b from to le within) t.2 t.1)))

pub name_addr_only : (r : Result NameAddr Bad) (b : List ℕ) (from to : ℕ) (n : NameAddr) → r ≡ or_bad (name_addr_at (take to b) from) → from ≤ to → to ≤ length b → IsNameAddrAt (take to b) from n → r ≡ Ok n
name_addr_only r b from to n h le within is = only_by (name_addr_at (take to b) from) r n h (name_addr_again (take to b) from is.0 (begins b from to le within) is.2 is.1 ∙ ap (λ (x : NameAddr). Some x) (sym is.3))

pub route_found : (r : Result NameAddr Bad) (b : List ℕ) (from to : ℕ) → r ≡ or_bad (route_at (take to b) from) → from ≤ to → to ≤ length b → IfOk r (IsRouteAt (take to b) from)
route_found r b from to h le within = found_by (IsRouteAt (take to b) from) (route_at (take to b) from) r h (λ v e. let t = route_value_takes (take to b) from v (begins b from to le within) e in (t.0, t.1, t.2, same_Some _ _ (sym e ∙ route_value_again (take to b) from t.0 (begins b from to le within) t.2 t.1)))

pub route_only : (r : Result NameAddr Bad) (b : List ℕ) (from to : ℕ) (n : NameAddr) → r ≡ or_bad (route_at (take to b) from) → from ≤ to → to ≤ length b → IsRouteAt (take to b) from n → r ≡ Ok n
route_only r b from to n h le within is = only_by (route_at (take to b) from) r n h (route_value_again (take to b) from is.0 (begins b from to le within) is.2 is.1 ∙ ap (λ (x : NameAddr). Some x) (sym is.3))
