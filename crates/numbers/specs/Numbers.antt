-- Document 01, "Numbers", and the lengths of "Packet layout" and of the list of refusals.
use Rattle.std.specs.Prelude.{ℕ, ◌+◌, ◌*◌, ◌^◌, Bool, eqb, ltb, leb}
use Rattle.octets.specs.Index.{◌and◌}
use Rattle.octets.specs.Choice.{◌then◌otherwise◌}

-- the longest packet
abbrev pub longest_packet : ℕ
longest_packet = 500

-- "An address travels as sixteen bytes by value, a packet hash as thirty-two"
abbrev pub address_width : ℕ
address_width = 16

abbrev pub digest_width : ℕ
digest_width = 32

-- a blob: ten bytes of an announce
abbrev pub blob_width : ℕ
blob_width = 10

-- document 02, wish 11: "Each port gets a size from 19 to 500", of the longest packet that it carries
abbrev pub least_size : ℕ
least_size = 19

unfoldable pub is_size : ℕ → Bool
is_size size = leb least_size size and leb size longest_packet

-- an output buffer must have room for the longest packet, however short this one is
abbrev pub least_output : ℕ
least_output = 500

-- 16 ports, 0 to 15
abbrev pub port_count : ℕ
port_count = 16

-- 64 paths
abbrev pub path_count : ℕ
path_count = 64

-- "16 stored blobs each" in document 01; in document 02, wish 8: "Store 64 per path"
abbrev pub blob_limit : ℕ
blob_limit = 64

-- 64 links
abbrev pub link_count : ℕ
link_count = 64

-- 512 return records
abbrev pub return_count : ℕ
return_count = 512

-- 1,024 remembered hashes
abbrev pub hash_count : ℕ
hash_count = 1024

-- 16 local addresses
abbrev pub local_count : ℕ
local_count = 16

-- test 3: a link request with a "payload under 64"; a link proof "whose payload isn't 96 or 99"
abbrev pub least_link_request : ℕ
least_link_request = 64

abbrev pub shorter_link_proof : ℕ
shorter_link_proof = 96

abbrev pub longer_link_proof : ℕ
longer_link_proof = 99

-- test 5: "Hops 128 or more"
abbrev pub hops_limit : ℕ
hops_limit = 128

-- clock in seconds, below 2^40
abbrev pub clock_limit : ℕ
clock_limit = 2 ^ 40

-- a record is live while clock < its expiry
abbrev pub live : ℕ → ℕ → Bool
live clock expiry = ltb clock expiry

-- modes: 0 boundary, 1 access point, 2 roaming. Document 01 names the words; the numbers are ours
abbrev pub mode_count : ℕ
mode_count = 3

-- path lifetime by the arrival port: boundary 604,800 s, access point 86,400, roaming 21,600
abbrev pub boundary_lifetime : ℕ
boundary_lifetime = 604800

abbrev pub access_point_lifetime : ℕ
access_point_lifetime = 86400

abbrev pub roaming_lifetime : ℕ
roaming_lifetime = 21600

unfoldable pub path_lifetime : ℕ → ℕ
path_lifetime mode =
    eqb mode 0 then boundary_lifetime otherwise
    eqb mode 1 then access_point_lifetime otherwise roaming_lifetime

-- remembered hash 300 s
abbrev pub hash_lifetime : ℕ
hash_lifetime = 300

-- return record 1,800 s
abbrev pub return_lifetime : ℕ
return_lifetime = 1800

-- unproved link 6 × (remaining hops + 1) s
abbrev pub unproved_lifetime : ℕ → ℕ
unproved_lifetime remaining = 6 * (remaining + 1)

-- proved link 720 s, renewed by each packet carried
abbrev pub proved_lifetime : ℕ
proved_lifetime = 720

-- document 02, wish 5: "Target, grace and penalty are at most 86,400, 254 and 604,800"
abbrev pub target_limit : ℕ
target_limit = 86400

abbrev pub grace_limit : ℕ
grace_limit = 254

abbrev pub penalty_limit : ℕ
penalty_limit = 604800

-- "Violations stop at 255"
abbrev pub violation_limit : ℕ
violation_limit = 255

-- "refusal 7's bound is 2^40 + 691,199 for blocked-until"
abbrev pub blocked_limit : ℕ
blocked_limit = 2 ^ 40 + 691199

-- refusal 7's "time over 2^40 + 604,799": the bound on the last clock and on every expiry; blocked-until and the last announce have wish 5's
abbrev pub time_limit : ℕ
time_limit = 2 ^ 40 + 604799
