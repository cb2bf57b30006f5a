use Rattle.std.proofs.Common.{refl}
use Rattle.sip_words.specs.Addresses.{octet_at, dot_end, v4_at, port_number_at}
use Rattle.sip_words.specs.Bytes.{has}
use Rattle.sip_words.specs.Many.{many_from, many}
use Rattle.sip_words.specs.Numbers.{number_at}
use Rattle.sip_words.specs.Params.{value_end, param_at, next_param, params_at, named}
use Rattle.sip_words.specs.Separators.{separator_at}
use Rattle.sip_words.specs.Words.{run_end, blank_len, lws_len, lws_end, gap_end, quoted_len, quoted_end, stands, byte_end, word_at}
use Rattle.sip_fields.specs.CSeq.{cseq_at}
use Rattle.sip_fields.specs.Host.{host_of, host_at, port_at}
use Rattle.sip_fields.specs.NameAddr.{next_name, names_end, display_end, open_at, closed_uri, bare_uri, any_uri, route_uri, rest_at, name_addr_at, route_at}
use Rattle.sip_fields.specs.Tail.{next_at}
use Rattle.sip_fields.specs.Uri.{scheme_end, is_absolute, password_end, user_at, login_at, sip_at, other_at, uri_at}
use Rattle.sip_fields.specs.Via.{protocol_at, via_at}
use Rattle.sip_scan.specs.Field.{full_name, kind_of, field_at, next_field, fields_at}
use Rattle.sip_scan.specs.Head.{head_behind, scanned}
use Rattle.sip_scan.specs.Lines.{plain_end, wsp_end, skipped, is_crlf, line_end, continues, next_line, lines_at, folded_end, first_crlf, begins_sip, speaks_sip, start_line}
use Rattle.sip_msg.specs.Basis.{version_end, version_at_space, uri_at_space, first_from, answerable_at, basis_in}
use Rattle.sip_msg.specs.Fields.{is_of, is_missing, is_repeated}
use Rattle.sip_msg.specs.Start.{request_at, status_at, start_at, start_of}
use Rattle.sip_msg.specs.Table.{head_of, fault_of}
use Rattle.sip_msg.specs.Values.{call_id_at, whole_number, hops_at, via_of, name_addr_of, call_id_of, cseq_of, max_forwards_of, content_length_of, next_via, next_route, values_read, list_reads, values_of}
use Rattle.sip_build.specs.Addresses.{reply_address}
use Rattle.sip_build.specs.Forwarded.{number_in, forwarding, forwarded_text}
use Rattle.sip_build.specs.Hop.{hop_request, ack_text, cancel_text}
use Rattle.sip_build.specs.Relayed.{without_top_via, relayed_text}
use Rattle.sip_build.specs.Reply.{reply_text, basis_reply_text}
use Rattle.sip_build.specs.Stamp.{stamp}
use Rattle.sip_build.specs.Stateless.{stateless_ack_text}
use Rattle.sip_build.specs.WithField.{ends_before_empty, empty_line, with_field}
use Rattle.sip_build.specs.Writing.{joined_text, response_to}
use Rattle.sip_keys.specs.Branches.{numbers_text, branch_text}
use Rattle.msg_edits.specs.Edited.{edited}
use Rattle.hex.specs.Hex.{encode_with}
use Rattle.std.specs.Fmt.{digits}
use Rattle.txn_dialogue.proofs.examples.the_best_of_three_responses.Goals as goal

pub returns-clause-first : goal.returns-clause-first
unfolding octet_at dot_end v4_at port_number_at has many_from many number_at value_end param_at next_param params_at named separator_at run_end blank_len lws_len lws_end gap_end quoted_len quoted_end stands byte_end word_at cseq_at host_of host_at port_at next_name names_end display_end open_at closed_uri bare_uri any_uri route_uri rest_at name_addr_at route_at next_at scheme_end is_absolute password_end user_at login_at sip_at other_at uri_at protocol_at via_at full_name kind_of field_at next_field fields_at head_behind scanned plain_end wsp_end skipped is_crlf line_end continues next_line lines_at folded_end first_crlf begins_sip speaks_sip start_line version_end version_at_space uri_at_space first_from answerable_at basis_in is_of is_missing is_repeated request_at status_at start_at start_of head_of fault_of call_id_at whole_number hops_at via_of name_addr_of call_id_of cseq_of max_forwards_of content_length_of next_via next_route values_read list_reads values_of reply_address number_in forwarding forwarded_text hop_request ack_text cancel_text without_top_via relayed_text reply_text basis_reply_text stamp stateless_ack_text ends_before_empty empty_line with_field joined_text response_to numbers_text branch_text edited encode_with digits
returns-clause-first c = refl

pub returns-clause-second : goal.returns-clause-second
unfolding octet_at dot_end v4_at port_number_at has many_from many number_at value_end param_at next_param params_at named separator_at run_end blank_len lws_len lws_end gap_end quoted_len quoted_end stands byte_end word_at cseq_at host_of host_at port_at next_name names_end display_end open_at closed_uri bare_uri any_uri route_uri rest_at name_addr_at route_at next_at scheme_end is_absolute password_end user_at login_at sip_at other_at uri_at protocol_at via_at full_name kind_of field_at next_field fields_at head_behind scanned plain_end wsp_end skipped is_crlf line_end continues next_line lines_at folded_end first_crlf begins_sip speaks_sip start_line version_end version_at_space uri_at_space first_from answerable_at basis_in is_of is_missing is_repeated request_at status_at start_at start_of head_of fault_of call_id_at whole_number hops_at via_of name_addr_of call_id_of cseq_of max_forwards_of content_length_of next_via next_route values_read list_reads values_of reply_address number_in forwarding forwarded_text hop_request ack_text cancel_text without_top_via relayed_text reply_text basis_reply_text stamp stateless_ack_text ends_before_empty empty_line with_field joined_text response_to numbers_text branch_text edited encode_with digits
returns-clause-second c = refl

pub returns-clause-chosen : goal.returns-clause-chosen
unfolding octet_at dot_end v4_at port_number_at has many_from many number_at value_end param_at next_param params_at named separator_at run_end blank_len lws_len lws_end gap_end quoted_len quoted_end stands byte_end word_at cseq_at host_of host_at port_at next_name names_end display_end open_at closed_uri bare_uri any_uri route_uri rest_at name_addr_at route_at next_at scheme_end is_absolute password_end user_at login_at sip_at other_at uri_at protocol_at via_at full_name kind_of field_at next_field fields_at head_behind scanned plain_end wsp_end skipped is_crlf line_end continues next_line lines_at folded_end first_crlf begins_sip speaks_sip start_line version_end version_at_space uri_at_space first_from answerable_at basis_in is_of is_missing is_repeated request_at status_at start_at start_of head_of fault_of call_id_at whole_number hops_at via_of name_addr_of call_id_of cseq_of max_forwards_of content_length_of next_via next_route values_read list_reads values_of reply_address number_in forwarding forwarded_text hop_request ack_text cancel_text without_top_via relayed_text reply_text basis_reply_text stamp stateless_ack_text ends_before_empty empty_line with_field joined_text response_to numbers_text branch_text edited encode_with digits
returns-clause-chosen c = refl

pub returns-clause-joined : goal.returns-clause-joined
unfolding octet_at dot_end v4_at port_number_at has many_from many number_at value_end param_at next_param params_at named separator_at run_end blank_len lws_len lws_end gap_end quoted_len quoted_end stands byte_end word_at cseq_at host_of host_at port_at next_name names_end display_end open_at closed_uri bare_uri any_uri route_uri rest_at name_addr_at route_at next_at scheme_end is_absolute password_end user_at login_at sip_at other_at uri_at protocol_at via_at full_name kind_of field_at next_field fields_at head_behind scanned plain_end wsp_end skipped is_crlf line_end continues next_line lines_at folded_end first_crlf begins_sip speaks_sip start_line version_end version_at_space uri_at_space first_from answerable_at basis_in is_of is_missing is_repeated request_at status_at start_at start_of head_of fault_of call_id_at whole_number hops_at via_of name_addr_of call_id_of cseq_of max_forwards_of content_length_of next_via next_route values_read list_reads values_of reply_address number_in forwarding forwarded_text hop_request ack_text cancel_text without_top_via relayed_text reply_text basis_reply_text stamp stateless_ack_text ends_before_empty empty_line with_field joined_text response_to numbers_text branch_text edited encode_with digits
returns-clause-joined c = refl
