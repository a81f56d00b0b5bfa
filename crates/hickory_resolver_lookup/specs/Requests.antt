-- A request of a run, as the definition of a run has it.
use Rattle.std.specs.Prelude.{string_bytes}
use Rattle.hickory_resolver_model.specs.Run as served
use Rattle.hickory_resolver_lookup.specs.declared.request.Request.{Request}
use Rattle.hickory_resolver_lookup.specs.declared.request.Request.TheVariants as request

abbrev pub request_of : Request → served.RequestValue
request_of (request.Lookup name record_type now) = served.Lookup (string_bytes name) record_type now
request_of (request.LookupIp host now) = served.LookupIp (string_bytes host) now
request_of (request.ClearLookup name record_type now) = served.ClearLookup (string_bytes name) record_type now
request_of (request.Clear now) = served.Clear now
