-- The key of the server transaction of a request (RFC 3261, section 17.2.3).
use Rattle.std.specs.Prelude.{◌≡◌, ℕ, List, [], Option, Some, None, slice_range, unwrap_or}
use Rattle.std.specs.Str.{str_to_ascii_lowercase}
use Rattle.sip_words.specs.declared.Span.{Span}
use Rattle.sip_msg.specs.declared.message.Message.{Message}
use Rattle.sip_msg.specs.declared.start.Start.{Start}
use Rattle.sip_msg.specs.declared.start.Start.TheVariants.{Request, Status}
use Rattle.server_key.specs.declared.key.KeyView.{KeyView}

-- the bytes at a place of the message
abbrev pub key_part : List ℕ → Span → List ℕ
key_part b at = slice_range b at.from at.to

-- the branch of the top Via; every request that reads has one
abbrev pub branch_in : List ℕ → Option Span → List ℕ
branch_in b None = []
branch_in b (Some at) = key_part b at

-- the method of a request
abbrev pub method_in : List ℕ → Start → List ℕ
method_in b (Request method uri) = key_part b method
method_in b (Status code reason) = []

-- the view shows the branch of the top Via, its host, its port or 5060, and this method
pub record ShowsKey (b : List ℕ) (m : Message) (name : List ℕ) (view : KeyView) : Type 0 where
  pub branch : view.branch.now ≡ branch_in b m.via.branch
  pub host : view.host.now ≡ key_part b m.via.host_at
  pub port : view.port ≡ unwrap_or m.via.port 5060
  pub method : view.method.now ≡ name

-- the top Vias of two requests have the same branch and the same sent-by, its host without regard to case
pub record IsOfOneSender (b : List ℕ) (m : Message) (c : List ℕ) (n : Message) : Type 0 where
  pub branch : branch_in b m.via.branch ≡ branch_in c n.via.branch
  pub host : str_to_ascii_lowercase (key_part b m.via.host_at) ≡ str_to_ascii_lowercase (key_part c n.via.host_at)
  pub port : unwrap_or m.via.port 5060 ≡ unwrap_or n.via.port 5060
