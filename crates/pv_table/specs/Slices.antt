-- What the slices of a URI show.
use Rattle.std.specs.Option.{option_copied}
use Rattle.pv_table.specs.declared.uri_parts.UriSlices.{UriSlices}
use Rattle.pv_table.specs.UriParts.{UriParts}

abbrev pub parts_shown : UriSlices → UriParts
parts_shown s = record {
  scheme = s.scheme.now;
  user = option_copied s.user;
  password = s.password.now;
  host = s.host.now;
  port = s.port.now;
  rest = s.rest.now;
}
