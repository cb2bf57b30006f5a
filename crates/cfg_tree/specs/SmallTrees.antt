-- Small trees, and what is refused of them.
use Rattle.std.specs.Prelude.{ℕ, ◌+◌, List, [], ◌∷◌, Some, None, codes}
use Rattle.pv_values.specs.declared.block.BlockKind.TheVariants.{Request, Event}
use Rattle.pv_values.specs.declared.refusal.Place.{Place}
use Rattle.cfg_tree.specs.declared.token.Variable.{Variable}
use Rattle.cfg_tree.specs.declared.raw.Word.{Word}
use Rattle.cfg_tree.specs.declared.raw.RawCall.TheVariants as call
use Rattle.cfg_tree.specs.declared.raw.RawExpr.TheOpen.{RawExpr-F}
use Rattle.cfg_tree.specs.declared.raw.RawExpr.TheViews.{roll-RawExpr}
use Rattle.cfg_tree.specs.declared.raw.RawStmt.TheOpen.{RawStmt-F}
use Rattle.cfg_tree.specs.declared.raw.RawStmt.TheViews.{roll-RawStmt}
use Rattle.cfg_tree.specs.declared.raw.RouteKind.TheVariants.{Route, Begins}
use Rattle.cfg_tree.specs.declared.raw.RawBlock.{RawBlock}
use Rattle.cfg_tree.specs.declared.token.Token.{Token}
use Rattle.cfg_tree.specs.declared.token.Lexeme.{Lexeme}
use Rattle.cfg_tree.specs.declared.token.Lexeme.TheVariants as lexeme
use Rattle.cfg_tree.specs.declared.token.Keyword.TheVariants as keyword
use Rattle.cfg_tree.specs.declared.token.Mark.TheVariants as mark
use Rattle.cfg_tree.specs.declared.raw.RawItem.{RawItem}
use Rattle.cfg_tree.specs.declared.raw.RawItem.TheVariants as item
use Rattle.cfg_tree.specs.declared.raw.RawScript.{RawScript}
use Rattle.cfg_tree.specs.Refusals.{Refusal, refusal}
use Rattle.cfg_tree.specs.declared.refusal_kind.RefusalKind.{RefusalKind}

abbrev pub at : ℕ → ℕ → Place
at from to = record { from = from; to = to }

abbrev pub word_at : List ℕ → ℕ → ℕ → Word
word_at text from to = record { text = text; at = at from to }

-- this is the only refusal
abbrev pub only : RefusalKind → ℕ → ℕ → List Refusal
only kind from to = refusal kind (at from to) ∷ []

-- `request_route{}` from a place on
abbrev pub empty_request : ℕ → RawBlock
empty_request from = record {
  kind = Begins Request;
  name = None;
  kind_at = at from (from + 13);
  at = at from (from + 15);
  body = [];
}

-- `route[A]{}` from a place on
abbrev pub empty_route : ℕ → RawBlock
empty_route from = record {
  kind = Route;
  name = Some (word_at (codes "A") (from + 6) (from + 7));
  kind_at = at from (from + 5);
  at = at from (from + 10);
  body = [];
}

-- no text
abbrev pub no_text : RawScript
no_text = record { items = []; end = 0 }

-- `route[A]{}`, `route[A]{}`, `request_route{}`, each on a line
abbrev pub one_name_twice : RawScript
one_name_twice = record { items = item.Block (empty_route 0) ∷ item.Block (empty_route 11) ∷ item.Block (empty_request 22) ∷ []; end = 37 }

-- `event_route[x]{t_relay();}`, `request_route{}`
abbrev pub relays_an_event : RawScript
relays_an_event = record {
  items = item.Block (record {
    kind = Begins Event;
    name = Some (word_at (codes "x") 12 13);
    kind_at = at 0 11;
    at = at 0 26;
    body = roll-RawStmt (RawStmt-F.Do (at 15 25) (call.Function (word_at (codes "t_relay") 15 22) [])) ∷ [];
  }) ∷ item.Block (empty_request 27) ∷ [];
  end = 42;
}

-- `loadmodule "usrloc.so"`, `request_route{}`
abbrev pub unknown_module : RawScript
unknown_module = record { items = item.Module (word_at (codes "usrloc.so") 11 22) ∷ item.Block (empty_request 23) ∷ []; end = 38 }

-- `request_route{$foo=$ru;}`
abbrev pub unknown_variable : RawScript
unknown_variable = record {
  items = item.Block (record {
    kind = Begins Request;
    name = None;
    kind_at = at 0 13;
    at = at 0 24;
    body = roll-RawStmt (RawStmt-F.Set (at 14 23)
        (record { variable = record { name = codes "foo"; inner = None; transformation = None }; at = at 14 18 })
        (roll-RawExpr (RawExpr-F.Variable (record { variable = record { name = codes "ru"; inner = None; transformation = None }; at = at 19 22 })))) ∷ [];
  }) ∷ [];
  end = 24;
}

-- ---- tokens

abbrev pub token : Lexeme → ℕ → ℕ → Token
token x from to = record { lexeme = x; at = at from to }

-- `route[A]{if(!$rc)exit;else{}}`
abbrev pub branching_tokens : List Token
branching_tokens =
    token (lexeme.Keyword keyword.Route) 0 5 ∷ token (lexeme.Mark mark.OpenSquare) 5 6 ∷ token (lexeme.BlockName (codes "A")) 6 7
    ∷ token (lexeme.Mark mark.CloseSquare) 7 8 ∷ token (lexeme.Mark mark.OpenCurly) 8 9
    ∷ token (lexeme.Keyword keyword.If) 9 11 ∷ token (lexeme.Mark mark.OpenRound) 11 12 ∷ token (lexeme.Mark mark.Not) 12 13
    ∷ token (lexeme.Variable code) 13 16 ∷ token (lexeme.Mark mark.CloseRound) 16 17
    ∷ token (lexeme.Keyword keyword.Exit) 17 21 ∷ token (lexeme.Mark mark.Semicolon) 21 22
    ∷ token (lexeme.Keyword keyword.Else) 22 26 ∷ token (lexeme.Mark mark.OpenCurly) 26 27 ∷ token (lexeme.Mark mark.CloseCurly) 27 28
    ∷ token (lexeme.Mark mark.CloseCurly) 28 29 ∷ []
  where
    code : Variable
    code = record { name = codes "rc"; inner = None; transformation = None }

abbrev pub branching_items : List RawItem
branching_items = item.Block (record {
  kind = Route;
  name = Some (word_at (codes "A") 6 7);
  kind_at = at 0 5;
  at = at 0 29;
  body = roll-RawStmt (RawStmt-F.If (at 9 28)
      (roll-RawExpr (RawExpr-F.Not (roll-RawExpr (RawExpr-F.Variable
      (record { variable = record { name = codes "rc"; inner = None; transformation = None }; at = at 13 16 })))))
      (roll-RawStmt (RawStmt-F.Exit (at 17 22))) (Some (roll-RawStmt (RawStmt-F.Group (at 26 28) [])))) ∷ [];
}) ∷ []

-- ---- a pattern

-- `request_route{if($ru=~"("){}}`
abbrev pub no_pattern : RawScript
no_pattern = record {
  items = item.Block (record {
    kind = Begins Request;
    name = None;
    kind_at = at 0 13;
    at = at 0 29;
    body = roll-RawStmt (RawStmt-F.If (at 14 28)
        (roll-RawExpr (RawExpr-F.Matches
        (roll-RawExpr (RawExpr-F.Variable (record { variable = record { name = codes "ru"; inner = None; transformation = None }; at = at 17 20 })))
        (word_at (codes "(") 22 25)))
        (roll-RawStmt (RawStmt-F.Group (at 26 28) [])) None) ∷ [];
  }) ∷ [];
  end = 29;
}
