-- When two keys of server transactions are one (RFC 3261, section 17.2.3).
use Rattle.std.specs.Prelude.{◌≡◌}
use Rattle.std.specs.Str.{str_to_ascii_lowercase}
use Rattle.server_key.specs.declared.key.KeyView.{KeyView}
use Rattle.server_key.specs.declared.key.Key.{Key}

-- two views are of one key: the hosts are equal without regard to case, and the rest byte by byte
pub record IsSameKey (a b : KeyView) : Type 0 where
  pub branch : a.branch.now ≡ b.branch.now
  pub host : str_to_ascii_lowercase a.host.now ≡ str_to_ascii_lowercase b.host.now
  pub port : a.port ≡ b.port
  pub method : a.method.now ≡ b.method.now

-- the key that a view shows: its bytes, with the letters of the host in lower case
abbrev pub shown_key : KeyView → Key
shown_key view = record {
  branch = view.branch.now;
  host = str_to_ascii_lowercase view.host.now;
  port = view.port;
  method = view.method.now;
}
