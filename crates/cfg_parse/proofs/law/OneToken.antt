-- Single tokens that are read as a value.
use Rattle.std.specs.Prelude.{ℕ, ℤ, pos, List, [], ◌∷◌, Option, Some, None, IfSome, option_map}
use Rattle.std.proofs.Common.{◌≡◌, ◌⊎◌, inl, inr, refl, ap, ◌∙◌}
use Rattle.pv_values.specs.declared.refusal.Place.{Place}
use Rattle.cfg_tree.specs.declared.token.Token.{Token}
use Rattle.cfg_tree.specs.declared.token.Variable.{Variable}
use Rattle.cfg_tree.specs.declared.token.Lexeme.{Lexeme}
use Rattle.cfg_tree.specs.declared.token.Lexeme.TheVariants as lexeme
use Rattle.cfg_tree.specs.declared.raw.Word.{Word}
use Rattle.cfg_tree.specs.declared.raw.RawVariable.{RawVariable}
use Rattle.cfg_tree.specs.Tokens.{IsA, word}
use Rattle.cfg_parse.specs.Reader.{one}
use Rattle.cfg_parse.specs.Calls.{number_token, string_token, name_in, block_name_in, target_token, variable_in, number, string, name, read_block_name, target, variable}
use Rattle.cfg_parse.proofs.law.Steps.{OnRead, nothing, found, OneToken}

pub one_takes : {A : Type 0} (P : Token → A → Type 0) (read : Lexeme → Place → Option A) → ((x : Lexeme) (at : Place) → IfSome (read x at) (λ a. P (record { lexeme = x; at = at }) a)) → (ts : List Token) → OnRead (OneToken P ts) (one read ts)
unfolding one
one_takes P read h [] = nothing
one_takes {A} P read h (t ∷ ts) = by (read t.lexeme t.at) (h t.lexeme t.at)
  where
    by : (o : Option A) → IfSome o (λ a. P t a) → OnRead (OneToken P (t ∷ ts)) (option_map (λ a. (a, ts)) o)
    by None k = nothing
    by (Some a) k = found a ts (record { token = t; whole = refl; is = k })

pub one_again : {A : Type 0} (read : Lexeme → Place → Option A) (t : Token) (ts : List Token) {x : Lexeme} {a : A} → IsA x t → read x t.at ≡ Some a → one read (t ∷ ts) ≡ Some (a, ts)
unfolding one
one_again {A} read t ts h e = ap (λ (o : Option A). option_map (λ a. (a, ts)) o) (ap (λ (y : Lexeme). read y t.at) h ∙ e)

-- ---- what they are

pub data NumberIs : Token → ℤ → Type 0 where
  number_is : (t : Token) (n : ℕ) → IsA (lexeme.Number (pos n)) t → NumberIs t (pos n)

pub data StringIs : Token → Word → Type 0 where
  string_is : (t : Token) (s : List ℕ) → IsA (lexeme.String s) t → StringIs t (word s t)

pub data NameIs : Token → Word → Type 0 where
  name_is : (t : Token) (s : List ℕ) → IsA (lexeme.Name s) t → NameIs t (word s t)

pub data BlockNameIs : Token → Word → Type 0 where
  block_name_is : (t : Token) (s : List ℕ) → IsA (lexeme.BlockName s) t → BlockNameIs t (word s t)

pub data TargetIs : Token → Word → Type 0 where
  target_is : (t : Token) (s : List ℕ) → IsA (lexeme.BlockName s) t ⊎ IsA (lexeme.String s) t → TargetIs t (word s t)

pub data VariableIs : Token → RawVariable → Type 0 where
  variable_is : (t : Token) (v : Variable) → IsA (lexeme.Variable v) t → VariableIs t (record { variable = v; at = t.at })

-- ---- what is read

number_read : (x : Lexeme) (at : Place) → IfSome (number_token x at) (λ n. NumberIs (record { lexeme = x; at = at }) n)
number_read (lexeme.Number (pos n)) at = number_is (record { lexeme = lexeme.Number (pos n); at = at }) n refl
number_read _ at = tt

string_read : (x : Lexeme) (at : Place) → IfSome (string_token x at) (λ w. StringIs (record { lexeme = x; at = at }) w)
string_read (lexeme.String s) at = string_is (record { lexeme = lexeme.String s; at = at }) s refl
string_read _ at = tt

name_read : (x : Lexeme) (at : Place) → IfSome (name_in x at) (λ w. NameIs (record { lexeme = x; at = at }) w)
name_read (lexeme.Name s) at = name_is (record { lexeme = lexeme.Name s; at = at }) s refl
name_read _ at = tt

block_name_read : (x : Lexeme) (at : Place) → IfSome (block_name_in x at) (λ w. BlockNameIs (record { lexeme = x; at = at }) w)
block_name_read (lexeme.BlockName s) at = block_name_is (record { lexeme = lexeme.BlockName s; at = at }) s refl
block_name_read _ at = tt

target_read : (x : Lexeme) (at : Place) → IfSome (target_token x at) (λ w. TargetIs (record { lexeme = x; at = at }) w)
target_read (lexeme.BlockName s) at = target_is (record { lexeme = lexeme.BlockName s; at = at }) s (inl refl)
target_read (lexeme.String s) at = target_is (record { lexeme = lexeme.String s; at = at }) s (inr refl)
target_read _ at = tt

variable_read : (x : Lexeme) (at : Place) → IfSome (variable_in x at) (λ w. VariableIs (record { lexeme = x; at = at }) w)
variable_read (lexeme.Variable v) at = variable_is (record { lexeme = lexeme.Variable v; at = at }) v refl
variable_read _ at = tt

pub number_takes : (ts : List Token) → OnRead (OneToken NumberIs ts) (number ts)
unfolding number
number_takes = one_takes NumberIs number_token number_read

pub string_takes : (ts : List Token) → OnRead (OneToken StringIs ts) (string ts)
unfolding string
string_takes = one_takes StringIs string_token string_read

pub name_takes : (ts : List Token) → OnRead (OneToken NameIs ts) (name ts)
unfolding name
name_takes = one_takes NameIs name_in name_read

pub block_name_takes : (ts : List Token) → OnRead (OneToken BlockNameIs ts) (read_block_name ts)
unfolding read_block_name
block_name_takes = one_takes BlockNameIs block_name_in block_name_read

pub target_takes : (ts : List Token) → OnRead (OneToken TargetIs ts) (target ts)
unfolding target
target_takes = one_takes TargetIs target_token target_read

pub variable_takes : (ts : List Token) → OnRead (OneToken VariableIs ts) (variable ts)
unfolding variable
variable_takes = one_takes VariableIs variable_in variable_read

-- ---- and again

pub number_again : (t : Token) (ts : List Token) (n : ℤ) → NumberIs t n → number (t ∷ ts) ≡ Some (n, ts)
unfolding number
number_again _ ts _ (number_is t n h) = one_again number_token t ts h refl

pub string_again : (t : Token) (ts : List Token) (w : Word) → StringIs t w → string (t ∷ ts) ≡ Some (w, ts)
unfolding string
string_again _ ts _ (string_is t s h) = one_again string_token t ts h refl

pub name_again : (t : Token) (ts : List Token) (w : Word) → NameIs t w → name (t ∷ ts) ≡ Some (w, ts)
unfolding name
name_again _ ts _ (name_is t s h) = one_again name_in t ts h refl

pub block_name_again : (t : Token) (ts : List Token) (w : Word) → BlockNameIs t w → read_block_name (t ∷ ts) ≡ Some (w, ts)
unfolding read_block_name
block_name_again _ ts _ (block_name_is t s h) = one_again block_name_in t ts h refl

pub target_again : (t : Token) (ts : List Token) (w : Word) → TargetIs t w → target (t ∷ ts) ≡ Some (w, ts)
unfolding target
target_again _ ts _ (target_is t s (inl h)) = one_again target_token t ts h refl
target_again _ ts _ (target_is t s (inr h)) = one_again target_token t ts h refl

pub variable_again : (t : Token) (ts : List Token) (v : RawVariable) → VariableIs t v → variable (t ∷ ts) ≡ Some (v, ts)
unfolding variable
variable_again _ ts _ (variable_is t v h) = one_again variable_in t ts h refl
