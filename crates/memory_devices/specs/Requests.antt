-- For proofs: the calls that the requests of the code are.
use Rattle.memory_devices.specs.{Calls.{Call, Print, Read, Sync, Write}, declared.kept_call.Request.{Request}}
use Rattle.memory_devices.specs.declared.kept_call.Request.TheVariants as request

-- the call of a request is the request with its bytes as a list
abbrev pub call_of : Request → Call
call_of request.Read = Read
call_of (request.Write at bytes) = Write at bytes.items
call_of request.Sync = Sync
call_of (request.Print bytes) = Print bytes.items
