-- The answers to the commands of the sample cache.
use Rattle.std.specs.Prelude.{◌≡◌, ℕ, ℤ, ◌<◌, ◌≤◌, List, [], length, Result, Ok, Err}
use Rattle.px_types.specs.declared.ids.ConnId.{ConnId}
use Rattle.px_types.specs.declared.error_code.ErrorCode.TheVariants.{NotSupported}
use Rattle.px_types.specs.ErrorCode.{code_of}
use Rattle.px_tag.specs.declared.fault.TagFault.{TagFault}
use Rattle.px_tag.specs.Place.{Place, start_of}
use Rattle.px_cmd.specs.declared.fault.CmdFault.{CmdFault}
use Rattle.px_cmd.specs.declared.fault.CmdFault.TheVariants.{Protocol, Unknown, Unsupported, NoMemory}
use Rattle.px_cmd.specs.Packet.{head_at}
use Rattle.px_reply.specs.Front.{refusal}
use Rattle.px_outcome.specs.declared.refusal.Refusal.{Refusal}
use Rattle.px_outcome.specs.declared.refusal.Refusal.TheVariants.{Code, NoMemory as OutOfMemory}
use Rattle.px_outcome.specs.Handled.{Handled, ◌>>=◌}
use Rattle.px_scache.specs.declared.answer.Answer.{Answer}
use Rattle.px_scache.specs.declared.answer.Answer.TheVariants.{Packet, Fault, Begins}
use Rattle.px_scache.specs.declared.command.Request.{Request}
use Rattle.px_scache.specs.declared.command.Request.TheVariants.{Upload, Delete, Finish, Play, Remove}
use Rattle.px_scache.specs.declared.play.Plays.{Plays}
use Rattle.px_scache.specs.Command.{request_at}
use Rattle.px_scache.specs.Uploads.{Uploads, no_uploads, create, delete, finished, without_upload, without_conn, written}
use Rattle.px_scache.specs.Cache.{Cache, finish, remove}
use Rattle.px_scache.specs.Play.{begun, IsPlay}

-- the uploads that aren't finished, and the samples
pub record Store : Type 0 where
  pub uploads : Uploads
  pub cache : Cache

abbrev pub no_store : Store
no_store = record { uploads = no_uploads; cache = [] }

-- ---- the commands: the store after them, and the answer

abbrev pub Done : Type 0
Done = Store × Answer

-- a command of uploads alone
abbrev pub of_uploads : Store → Handled (Uploads × List ℕ) → Handled Done
of_uploads store handled = handled >>= λ done. Ok (record store { uploads = done.0 }, Packet done.1)

-- a command of the cache alone
abbrev pub of_cache : Store → Handled (Cache × List ℕ) → Handled Done
of_cache store handled = handled >>= λ done. Ok (record store { cache = done.0 }, Packet done.1)

abbrev pub finish_upload : ConnId → ℕ → ℕ → Store → Handled Done
finish_upload conn tag stream store = do
  sample ← finished conn stream store.uploads
  done ← finish tag sample store.cache
  Ok (record { uploads = without_upload conn stream store.uploads; cache = done.0 }, Packet done.1)

abbrev pub handled : ConnId → Plays → ℕ → Request → Store → Handled Done
handled conn plays tag (Upload a) store = of_uploads store (create conn tag a store.uploads)
handled conn plays tag (Delete stream) store = of_uploads store (delete conn tag stream store.uploads)
handled conn plays tag (Finish stream) store = finish_upload conn tag stream store
handled conn plays tag (Play a) store = begun plays a store.cache >>= λ p. Ok (store, Begins p)
handled conn plays tag (Remove name) store = of_cache store (remove tag name store.cache)

-- ---- the answer to a packet

-- the reply, or the play that begins; or the error, after which the store is as it was
abbrev pub replied : ℕ → Store → Handled Done → Done
replied tag store (Ok done) = done
replied tag store (Err (Code code)) = (store, Packet (refusal tag (code_of code)))
replied tag store (Err OutOfMemory) = (store, Packet (refusal tag (code_of NotSupported)))

-- a fault in the fields changes nothing; neither does another command, which isn't supported here
abbrev pub requested : ConnId → Plays → ℕ → Store → Result Request CmdFault → Done
requested conn plays tag store (Ok request) = replied tag store (handled conn plays tag request store)
requested conn plays tag store (Err (Protocol fault)) = (store, Fault fault)
requested conn plays tag store (Err (Unknown number)) = (store, Packet (refusal tag (code_of NotSupported)))
requested conn plays tag store (Err (Unsupported number)) = (store, Packet (refusal tag (code_of NotSupported)))
requested conn plays tag store (Err NoMemory) = (store, Packet (refusal tag (code_of NotSupported)))

abbrev pub after_head : ConnId → Plays → Store → Result ((ℕ × ℕ) × Place) TagFault → Done
after_head conn plays store (Err fault) = (store, Fault fault)
after_head conn plays store (Ok head) = requested conn plays head.0.1 store (request_at head.0.0 head.1)

-- the answer to a packet of a connection, where these plays are under way
abbrev pub answer : ConnId → Plays → List ℕ → Store → Done
answer conn plays packet store = after_head conn plays store (head_at (start_of packet))

-- ---- what is no command

-- a data frame to a connection's upload
abbrev pub with_data : ConnId → ℕ → ℤ → ℕ → List ℕ → Store → Store
with_data conn stream offset seek more store = record store { uploads = written conn stream offset seek more store.uploads }

-- a connection is closed
abbrev pub forgotten : ConnId → Store → Store
forgotten conn store = record store { uploads = without_conn conn store.uploads }

-- ---- the answers of the calls

-- the answer, with the store after it; without memory nothing is said of it
abbrev pub IsAnswer : {E : Type 0} → Result Answer E → Store → Done → Type 0
IsAnswer (Ok given) after expected = expected ≡ (after, given)
IsAnswer (Err error) after expected = Unit {0}

-- a frame can carry the packet
pub record IsCarried (packet : List ℕ) : Type 0 where
  pub some : 0 < length packet
  pub few : length packet ≤ 16777216

-- the packet fits a frame, and the play can be spelled
abbrev pub CanBeSent : Answer → Type 0
CanBeSent (Packet packet) = IsCarried packet
CanBeSent (Fault fault) = Unit {0}
CanBeSent (Begins p) = IsPlay p

-- A command's call answered what its handler gives, with the part that it changes after it, or the handler's refusal, after which that part
-- is as it was; NoMemory is always allowed.
abbrev pub IsDone : {A S : Type 0} → Result A Refusal → S → Handled (S × A) → Type 0
IsDone (Ok x) after handled = handled ≡ Ok (after, x)
IsDone (Err (Code code)) after handled = handled ≡ Err (Code code)
IsDone (Err OutOfMemory) after handled = Unit {0}
