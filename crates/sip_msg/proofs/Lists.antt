-- The values of a list, one after the other, as a loop reads them.
use Rattle.std.proofs.Common.{◌≡◌, ℕ, zero, suc, ◌+◌, ◌<◌, ◌≤◌, true, false, List, length, take, refl, sym, ap, ◌∙◌, arith, Some, None}
use Rattle.sip_scan.specs.declared.field.HeaderSpan.{HeaderSpan}
use Rattle.sip_scan.specs.Field.{IsField}
use Rattle.sip_msg.specs.Values.{next_value, rest_reads, values_read, list_reads}

-- what is left to read from here on is what was to be read, and there are more than enough steps
pub record Left (b : List ℕ) (f : HeaderSpan) (at n : ℕ) : Type 0 where
  pub low : f.value.from ≤ at
  pub high : at ≤ f.value.to
  pub steps : f.value.to < at + n
  pub same : values_read n (next_value f.kind (take f.value.to b)) at ≡ list_reads b f

pub begins : (b : List ℕ) (f : HeaderSpan) → IsField b f → Left b f f.value.from (suc (length b))
unfolding list_reads
begins b f is = record { low = omega arith; high = is.value; steps = omega (arith, is.end, is.within); same = refl }

pub goes : (b : List ℕ) (f : HeaderSpan) (at next : ℕ) (n : ℕ) → Left b f at n → next_value f.kind (take f.value.to b) at ≡ Some (Some next) → at < next → next ≤ f.value.to → (m : ℕ) × Left b f next m
unfolding values_read
goes b f at next zero l e low high = absurd (omega (arith, l.steps, l.high))
goes b f at next (suc n) l e low high = (
  n,
  record {
    low = omega (arith, l.low);
    high = high;
    steps = omega (arith, l.steps);
    same = ap (λ r. rest_reads r (values_read n (next_value f.kind (take f.value.to b)))) (sym e) ∙ l.same;
  },
)

pub last_reads : (b : List ℕ) (f : HeaderSpan) (at : ℕ) (n : ℕ) → Left b f at n → next_value f.kind (take f.value.to b) at ≡ Some None → list_reads b f ≡ true
unfolding values_read
last_reads b f at zero l e = absurd (omega (arith, l.steps, l.high))
last_reads b f at (suc n) l e = sym l.same ∙ ap (λ r. rest_reads r (values_read n (next_value f.kind (take f.value.to b)))) e

pub one_is_bad : (b : List ℕ) (f : HeaderSpan) (at : ℕ) (n : ℕ) → Left b f at n → next_value f.kind (take f.value.to b) at ≡ None → list_reads b f ≡ false
unfolding values_read
one_is_bad b f at zero l e = absurd (omega (arith, l.steps, l.high))
one_is_bad b f at (suc n) l e = sym l.same ∙ ap (λ r. rest_reads r (values_read n (next_value f.kind (take f.value.to b)))) e
