-- Document 02, wish 2, amends document 01: packets that "are no longer tested as duplicates nor remembered". A keepalive is the same bytes
-- each time, so within 300 s the second would drop as a duplicate and the link would die.
use Rattle.std.specs.Prelude.{ℕ, Bool, List, eqb}
use Rattle.octets.specs.Index.{◌and◌}
use Rattle.octets.specs.Choice.{◌or◌}
use Rattle.packet.specs.Header.{of_kind_link}
use Rattle.packet.specs.Read.{header_of, parts_of}

-- the contexts, with their names in source 003 (packets); sources 005 and 006 (link communication) have all but CACHE_REQUEST and CHANNEL
unfoldable pub exempt_context : ℕ → Bool
exempt_context context =
    -- RESOURCE: a part of a resource
    eqb context 0x01
    -- RESOURCE_REQ: a request for parts
    or eqb context 0x03
    -- RESOURCE_PRF: a resource's proof
    or eqb context 0x05
    -- CACHE_REQUEST: a request for a cached packet
    or eqb context 0x08
    -- CHANNEL: a channel's message
    or eqb context 0x0e
    -- KEEPALIVE
    or eqb context 0xfa

-- "Packets of kind link with context 0x01, 0x03, 0x05, 0x08, 0x0E or 0xFA": the destination kind, whatever packet kind and type
unfoldable pub exempt : List ℕ → Bool
exempt p = of_kind_link (header_of p) and exempt_context (parts_of p).context
