-- Statements without others in them: what is read is derived.
use Rattle.std.specs.Prelude.{ℕ, suc, Bool, true, false, List, [], ◌∷◌, ◌++◌, Option, Some, None}
use Rattle.std.proofs.Common.{◌≡◌, refl, sym, subst, append_assoc}
use Rattle.std.proofs.lemmas.Bool.{both_ways}
use Rattle.pv_values.specs.declared.refusal.Place.{Place}
use Rattle.cfg_tree.specs.declared.token.Token.{Token}
use Rattle.cfg_tree.specs.declared.token.Keyword.{Keyword}
use Rattle.cfg_tree.specs.declared.token.Keyword.TheVariants as word_is
use Rattle.cfg_tree.specs.declared.token.Mark.TheVariants as mark
use Rattle.cfg_tree.specs.declared.raw.RawVariable.{RawVariable}
use Rattle.cfg_tree.specs.declared.raw.RawExpr.{RawExpr}
use Rattle.cfg_tree.specs.declared.raw.RawStmt.{RawStmt}
use Rattle.cfg_tree.specs.declared.raw.RawStmt.TheOpen.{RawStmt-F}
use Rattle.cfg_tree.specs.declared.raw.RawStmt.TheViews.{roll-RawStmt}
use Rattle.cfg_tree.specs.Tokens.{IsMark, IsKeyword, whole}
use Rattle.cfg_tree.specs.Grammar as tree
use Rattle.cfg_tree.specs.Grammar.{IsExpr, StmtIs}
use Rattle.cfg_parse.specs.Reader.{and_then, pure, place_since, sees_keyword}
use Rattle.cfg_parse.specs.Stmts.{condition, assignment, call_alone, read_returned, return_of, alone, exit_alone, drop_alone, break_alone, empty}
use Rattle.cfg_parse.proofs.law.Steps.{OnRead, found, and_so, Takes, mark_takes, keyword_takes, eaten}
use Rattle.cfg_parse.proofs.law.OneToken.{VariableIs, variable_is, variable_takes}
use Rattle.cfg_parse.proofs.law.Calls.{call_takes}
use Rattle.cfg_parse.proofs.law.ExprTakes.{expr_takes}
use Rattle.cfg_parse.proofs.law.Places.{placed}

-- a condition in brackets
pub data ConditionIs : List Token → RawExpr → Type 0 where
  condition_is : (o c : Token) (ts : List Token) (e : RawExpr) → IsMark mark.OpenRound o → IsExpr ts e → IsMark mark.CloseRound c → ConditionIs (o ∷ ts ++ c ∷ []) e

pub condition_takes : Takes ConditionIs condition
unfolding condition
condition_takes ts = and_so (mark_takes mark.OpenRound ts) (λ _ s o. and_so (expr_takes s) (λ e v f. and_so (mark_takes mark.CloseRound v) (λ _ rest c.
    found e rest (record {
      front = o.token ∷ f.front ++ c.token ∷ [];
      whole = let p = append_assoc f.front (c.token ∷ []) rest in cc;
      is = condition_is o.token c.token f.front e o.is f.is c.is;
    }))))

-- the front of the tokens is read as this statement; if it ends with an `if` without `else`, no `else` comes next
pub record StmtFound (room : ℕ) (loop : Bool) (ts : List Token) (s : RawStmt) (rest : List Token) : Type 0 where
  pub front : List Token
  pub whole : ts ≡ front ++ rest
  pub dangles : Bool
  pub is : StmtIs room loop dangles front s
  pub ends : dangles ≡ true → sees_keyword word_is.Else rest ≡ false

-- a statement with the place of what was read
pub at_place : (room : ℕ) (loop dangles : Bool) (make : Place → RawStmt) (ts us rest : List Token) → ts ≡ us ++ rest → StmtIs room loop dangles us (make (whole us)) → (dangles ≡ true → sees_keyword word_is.Else rest ≡ false) → StmtFound room loop ts (make (place_since ts rest)) rest
at_place room loop dangles make ts us rest e d f = record {
  front = us;
  whole = e;
  dangles = dangles;
  is = subst (λ (at : Place). StmtIs room loop dangles us (make at)) (sym (placed ts us rest e)) d;
  ends = f;
}

pub simple : (room : ℕ) (loop : Bool) (make : Place → RawStmt) (ts us rest : List Token) → ts ≡ us ++ rest → StmtIs room loop false us (make (whole us)) → StmtFound room loop ts (make (place_since ts rest)) rest
simple room loop make ts us rest e d = at_place room loop false make ts us rest e d (λ h. absurd (both_ways false refl h))

-- a keyword and its semicolon
record Alone (k : Keyword) (ts : List Token) (at : Place) (rest : List Token) : Type 0 where
  pub word : Token
  pub semicolon : Token
  pub whole : ts ≡ word ∷ semicolon ∷ rest
  pub is : IsKeyword k word
  pub ends : IsMark mark.Semicolon semicolon
  pub place : at ≡ place_since ts rest

alone_takes : (k : Keyword) (ts : List Token) → OnRead (Alone k ts) (alone k ts)
unfolding alone
alone_takes k ts = and_so (keyword_takes k ts) (λ _ s t. and_so (mark_takes mark.Semicolon s) (λ _ rest c.
    found (place_since ts rest) rest (record { word = t.token; semicolon = c.token; whole = cc; is = t.is; ends = c.is; place = refl })))

alone_found : (room : ℕ) (loop : Bool) (make : Place → RawStmt) (k : Keyword) → ((t c : Token) → IsKeyword k t → IsMark mark.Semicolon c → StmtIs room loop false (t ∷ c ∷ []) (make (whole (t ∷ c ∷ [])))) → (ts : List Token) → OnRead (StmtFound room loop ts) (and_then (alone k ts) (λ at. pure (make at)))
alone_found room loop make k is ts = and_so (alone_takes k ts) (λ at rest a. found (make at) rest (subst (λ (p : Place). StmtFound room loop ts (make p) rest) (sym a.place) (simple room loop make ts (a.word ∷ a.semicolon ∷ []) rest a.whole (is a.word a.semicolon a.is a.ends))))

set_is : (room : ℕ) (loop : Bool) (t a c : Token) (ts : List Token) (v : RawVariable) (e : RawExpr) → VariableIs t v → IsMark mark.Assign a → IsExpr ts e → IsMark mark.Semicolon c → StmtIs (suc room) loop false (t ∷ a ∷ ts ++ c ∷ []) (roll-RawStmt (RawStmt-F.Set (whole (t ∷ a ∷ ts ++ c ∷ [])) v e))
set_is room loop _ a c ts _ e (variable_is t v h) k d i = tree.assigned room loop (t ∷ a ∷ ts ++ c ∷ []) ts t a c v e refl h k d i

module _ (room : ℕ) (loop : Bool) where
  pub assignment_takes : (ts : List Token) → OnRead (StmtFound (suc room) loop ts) (assignment ts)
  unfolding assignment
  assignment_takes ts = and_so (variable_takes ts) (λ v s t. and_so (mark_takes mark.Assign s) (λ _ w a. and_so (expr_takes w) (λ e x f. and_so (mark_takes mark.Semicolon x) (λ _ rest c.
      found _ rest (simple (suc room) loop (λ at. roll-RawStmt (RawStmt-F.Set at v e)) ts (t.token ∷ a.token ∷ f.front ++ c.token ∷ []) rest
      (let p = append_assoc f.front (c.token ∷ []) rest in cc)
      (set_is room loop t.token a.token c.token f.front v e t.is a.is f.is c.is))))))

  pub call_alone_takes : (ts : List Token) → OnRead (StmtFound (suc room) loop ts) (call_alone ts)
  unfolding call_alone
  call_alone_takes ts = and_so (call_takes ts) (λ f s d. and_so (mark_takes mark.Semicolon s) (λ _ rest c.
      found _ rest (simple (suc room) loop (λ at. roll-RawStmt (RawStmt-F.Do at f)) ts (d.front ++ c.token ∷ []) rest
      (let p = append_assoc d.front (c.token ∷ []) rest in cc)
      (tree.called room loop (d.front ++ c.token ∷ []) d.front c.token f refl d.is c.is))))

  pub exit_takes : (ts : List Token) → OnRead (StmtFound (suc room) loop ts) (exit_alone ts)
  exit_takes = alone_found (suc room) loop (λ at. roll-RawStmt (RawStmt-F.Exit at)) word_is.Exit (λ t c h k. tree.exits room loop t c h k)

  pub drop_takes : (ts : List Token) → OnRead (StmtFound (suc room) loop ts) (drop_alone ts)
  drop_takes = alone_found (suc room) loop (λ at. roll-RawStmt (RawStmt-F.Drop at)) word_is.Drop (λ t c h k. tree.drops room loop t c h k)

  pub empty_takes : (ts : List Token) → OnRead (StmtFound (suc room) loop ts) (empty ts)
  unfolding empty
  empty_takes ts = and_so (mark_takes mark.Semicolon ts) (λ _ rest c.
      found _ rest (simple (suc room) loop (λ at. roll-RawStmt (RawStmt-F.Empty at)) ts (c.token ∷ []) rest (cc) (tree.empty room loop c.token c.is)))

pub break_takes : (room : ℕ) (ts : List Token) → OnRead (StmtFound (suc room) true ts) (break_alone ts)
break_takes room = alone_found (suc room) true (λ at. roll-RawStmt (RawStmt-F.Break at)) word_is.Break (λ t c h k. tree.breaks room t c h k)

-- ---- return

pub data ReturnedIs : List Token → Option RawExpr → Type 0 where
  no_value : (c : Token) → IsMark mark.Semicolon c → ReturnedIs (c ∷ []) None
  with_value : (ts : List Token) (c : Token) (e : RawExpr) → IsExpr ts e → IsMark mark.Semicolon c → ReturnedIs (ts ++ c ∷ []) (Some e)

returned_takes : Takes ReturnedIs read_returned
unfolding read_returned
returned_takes ts = eaten mark.Semicolon ts _ _
    (λ c mid e h. found None mid (record { front = c ∷ []; whole = e; is = no_value c h }))
    (and_so (expr_takes ts) (λ e s f. and_so (mark_takes mark.Semicolon s) (λ _ rest c.
    found (Some e) rest (record { front = f.front ++ c.token ∷ []; whole = let p = append_assoc f.front (c.token ∷ []) rest in cc; is = with_value f.front c.token e f.is c.is }))))

return_is : (room : ℕ) (loop : Bool) (r : Token) (us : List Token) (value : Option RawExpr) → IsKeyword word_is.Return r → ReturnedIs us value → StmtIs (suc room) loop false (r ∷ us) (roll-RawStmt (RawStmt-F.Return (whole (r ∷ us)) value))
return_is room loop r _ _ h (no_value c k) = tree.return_alone room loop r c h k
return_is room loop r _ _ h (with_value ts c e d k) = tree.return_of room loop (r ∷ ts ++ c ∷ []) ts r c e refl h d k

pub return_takes : (room : ℕ) (loop : Bool) (ts : List Token) → OnRead (StmtFound (suc room) loop ts) (return_of ts)
unfolding return_of
return_takes room loop ts = and_so (keyword_takes word_is.Return ts) (λ _ s r. and_so (returned_takes s) (λ value rest f.
    found _ rest (simple (suc room) loop (λ at. roll-RawStmt (RawStmt-F.Return at value)) ts (r.token ∷ f.front) rest (cc) (return_is room loop r.token f.front value r.is f.is))))
