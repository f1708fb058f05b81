-- The samples after events, and the sample of a play.
use Rattle.std.proofs.Common.{◌≡◌, ℕ, zero, suc, Bool, true, false, List, [], ◌∷◌, Option, None, Some, Result, Ok, Err, refl, ap, sym, ◌∙◌}
use Rattle.std.specs.Prelude.{cond, fold, not, nat_lt}
use Rattle.std.proofs.lemmas.Grind.{fold-append}
use Rattle.std.proofs.lemmas.Bool.{cond_both}
use Rattle.px_types.specs.declared.ids.ConnId.{ConnId}
use Rattle.px_types.specs.declared.error_code.ErrorCode.{ErrorCode}
use Rattle.px_types.specs.declared.error_code.ErrorCode.TheVariants.{Invalid, NoEntity, BadState, TooLarge}
use Rattle.px_tag.specs.declared.fault.TagFault.{TagFault}
use Rattle.px_tag.specs.Place.{Place, start_of}
use Rattle.px_cmd.specs.declared.fault.CmdFault.{CmdFault}
use Rattle.px_cmd.specs.declared.fault.CmdFault.TheVariants.{Protocol, Unknown, Unsupported, NoMemory}
use Rattle.px_cmd.specs.declared.command.SinkRef.{SinkRef}
use Rattle.px_cmd.specs.Packet.{head_at}
use Rattle.px_frame.specs.declared.frame.Frame.{Frame}
use Rattle.px_frame.specs.declared.frame.Body.{Body}
use Rattle.px_frame.specs.declared.frame.Body.TheVariants.{Control, Write as write}
use Rattle.px_outcome.specs.declared.refusal.Refusal.TheVariants.{Code, NoMemory as OutOfMemory}
use Rattle.px_outcome.specs.Handled.{Handled, ◌>>=◌, check, present}
use Rattle.px_reply.specs.Front.{reply_to}
use Rattle.px_session.specs.declared.event.Event.{Event}
use Rattle.px_session.specs.declared.event.Event.TheVariants.{Connect, Bytes, Close, Cut, Turn, Collect, Stop}
use Rattle.px_state.specs.Effect.{sending}
use Rattle.px_state.specs.declared.effect.Effect.{Effect}
use Rattle.px_state.specs.declared.effect.Effect.TheVariants.{Sent, Closed}
use Rattle.px_sieve.specs.declared.segment.Segment.{Segment}
use Rattle.px_sieve.specs.declared.piece.Piece.{Piece}
use Rattle.px_sieve.specs.declared.piece.Piece.TheVariants.{Pass, Broken, Own, Write}
use Rattle.px_sieve.specs.Scene.{Item, Reply, shown_by}
use Rattle.px_scache.specs.declared.answer.Answer.TheVariants.{Packet, Begins}
use Rattle.px_scache.specs.declared.command.Request.{Request}
use Rattle.px_scache.specs.declared.command.Request.TheVariants.{Upload, Delete, Finish, Play as play, Remove}
use Rattle.px_scache.specs.declared.play.Play.{Play}
use Rattle.px_scache.specs.declared.play.Plays.{Plays}
use Rattle.px_scache.specs.declared.sample.Sample.{Sample}
use Rattle.px_scache.specs.Answers.{Store, Done, of_uploads, of_cache, replied, requested, after_head, forgotten as store_forgotten}
use Rattle.px_scache.specs.Cache.{Cache, Finished, Removed, changed, stored, removed, has_room, has_sample, sample_named, finish, remove}
use Rattle.px_scache.specs.Command.{meant, request_at, request_after}
use Rattle.px_scache.specs.Play.{begun, is_volume, volume_of, MOST_PLAYS, is_name, is_clear, played_reply, create_frame, data_frame, drain_frame}
use Rattle.px_scache.specs.Uploads.{Uploads, create, delete, finished, without_upload, follows, change_first, is_upload, added}
use Rattle.px_cache_world.specs.declared.answered.Created.TheVariants.{Made}
use Rattle.px_cache_world.specs.Answered.{NO_STREAM, play_reply, tag_in}
use Rattle.px_cache_world.specs.Course.{under_way, most_due}
use Rattle.px_cache_world.specs.Sampler.{Sampler, own, packet_of, is_taken, uploaded, answered_by, created, filling, answer_items, store_seen, after_items, alone, delete_items_of, after_delete_of, after_delete, deleted_by, handled_in, piece_items, with_piece, after_whole, handed_out, piece_for, after_segment, after_segments, hearing, to_hand_out, after_lone, sampler_after}
use Rattle.px_cache_world.specs.Run.{sampler_by, finished_by, changes_of, piece_changes, segments_changes, changes_in, changes_by, name_in}

-- ---- a command

module _ (conn : ConnId) (plays : Plays) (tag : ℕ) (store : Store) where
  uploads-kept : (h : Handled (Uploads × List ℕ)) → (replied tag store (of_uploads store h)).0.cache ≡ store.cache
  uploads-kept (Ok done) = refl
  uploads-kept (Err (Code code)) = refl
  uploads-kept (Err OutOfMemory) = refl

  plays-kept : (h : Handled Play) → (replied tag store (h >>= λ p. Ok (store, Begins p))).0.cache ≡ store.cache
  plays-kept (Ok p) = refl
  plays-kept (Err (Code code)) = refl
  plays-kept (Err OutOfMemory) = refl

  abbrev storing : Sample → Bool → Handled (Cache × List ℕ)
  storing sample b = check b TooLarge >>= λ room. Ok (stored sample store.cache, reply_to tag)

  abbrev ending : ℕ → Handled (Cache × List ℕ) → Handled Done
  ending stream h = h >>= λ done. Ok (record { uploads = without_upload conn stream store.uploads; cache = done.0 }, Packet done.1)

  stores : (sample : Sample) (stream : ℕ) (b : Bool) → (replied tag store (ending stream (storing sample b))).0.cache ≡ fold changed store.cache (cond b (Finished sample ∷ []) [])
  stores sample stream true = refl
  stores sample stream false = refl

  finishes : (stream : ℕ) (h : Handled Sample)
      → (replied tag store (h >>= λ sample. finish tag sample store.cache >>= λ done. Ok (record { uploads = without_upload conn stream store.uploads; cache = done.0 }, Packet done.1))).0.cache
      ≡ fold changed store.cache (finished_by h store.cache)
  finishes stream (Ok sample) = stores sample stream (has_room sample store.cache)
  finishes stream (Err (Code code)) = refl
  finishes stream (Err OutOfMemory) = refl

  drops : (name : List ℕ) (b : Bool)
      → (replied tag store (of_cache store (check b NoEntity >>= λ there. Ok (removed name store.cache, reply_to tag)))).0.cache ≡ fold changed store.cache (cond b (Removed name ∷ []) [])
  drops name true = refl
  drops name false = refl

  requests : (read : Result Request CmdFault) → (requested conn plays tag store read).0.cache ≡ fold changed store.cache (changes_of conn store read)
  requests (Ok (Upload a)) = uploads-kept (create conn tag a store.uploads)
  requests (Ok (Delete stream)) = uploads-kept (delete conn tag stream store.uploads)
  requests (Ok (Finish stream)) = finishes stream (finished conn stream store.uploads)
  requests (Ok (play a)) = plays-kept (begun plays a store.cache)
  requests (Ok (Remove None)) = refl
  requests (Ok (Remove (Some name))) = drops name (has_sample (Some name) store.cache)
  requests (Err (Protocol fault)) = refl
  requests (Err (Unknown number)) = refl
  requests (Err (Unsupported number)) = refl
  requests (Err NoMemory) = refl

heads : (conn : ConnId) (plays : Plays) (store : Store) (head : Result ((ℕ × ℕ) × Place) TagFault)
    → (after_head conn plays store head).0.cache ≡ fold changed store.cache (changes_of conn store (request_after head))
heads conn plays store (Err fault) = refl
heads conn plays store (Ok head) = requests conn plays head.0.1 store (request_at head.0.0 head.1)

pub command-kept : (s : Sampler) (conn : ConnId) (packet : List ℕ) → (answered_by s conn packet).0.cache ≡ fold changed s.store.cache (changes_of conn s.store (meant packet))
unfolding meant
command-kept s conn packet = heads conn (under_way s.course) s.store (head_at (start_of packet))

-- ---- the sample of a play

not-begun : (code : ErrorCode) (p : Play) → ◌≡◌ {A = Handled Play} (Err (Code code)) (Ok p) → ⊥
not-begun code p e = cc

begins-from : (sink : SinkRef) (volume : ℕ) (p : Play) (o : Option Sample) (a b c d f : Bool)
    → (present o NoEntity >>= λ sample. check a Invalid >>= λ lawful. check b TooLarge >>= λ few. check c BadState >>= λ there. check d Invalid >>= λ clear. check f NoEntity >>= λ known.
    Ok (record { sink = sink; volume = volume; sample = sample })) ≡ Ok p
    → o ≡ Some p.sample
begins-from sink volume p None a b c d f e = absurd (not-begun NoEntity p e)
begins-from sink volume p (Some sample) false b c d f e = absurd (not-begun Invalid p e)
begins-from sink volume p (Some sample) true false c d f e = absurd (not-begun TooLarge p e)
begins-from sink volume p (Some sample) true true false d f e = absurd (not-begun BadState p e)
begins-from sink volume p (Some sample) true true true false f e = absurd (not-begun Invalid p e)
begins-from sink volume p (Some sample) true true true true false e = absurd (not-begun NoEntity p e)
begins-from sink volume p (Some sample) true true true true true e = let is : (record { sink = sink; volume = volume; sample = sample }) ≡ p = cc in ap (λ (q : Play). Some q.sample) is

packet-is : (given : List ℕ) (p : Play) → Packet given ≡ Begins p → ⊥
packet-is given p e = cc

same-play : (q p : Play) → Begins q ≡ Begins p → ◌≡◌ {A = Handled Play} (Ok q) (Ok p)
same-play q p e = let is : q ≡ p = cc in ap (λ (r : Play). Ok r) is

module _ (conn : ConnId) (plays : Plays) (tag : ℕ) (store : Store) (p : Play) where
  uploads-answer : (h : Handled (Uploads × List ℕ)) → (replied tag store (of_uploads store h)).1 ≡ Begins p → ⊥
  uploads-answer (Ok done) e = packet-is done.1 p e
  uploads-answer (Err (Code code)) e = cc
  uploads-answer (Err OutOfMemory) e = cc

  cache-answers : (h : Handled (Cache × List ℕ)) → (replied tag store (of_cache store h)).1 ≡ Begins p → ⊥
  cache-answers (Ok done) e = packet-is done.1 p e
  cache-answers (Err (Code code)) e = cc
  cache-answers (Err OutOfMemory) e = cc

  stored-answers : (stream : ℕ) (h : Handled (Cache × List ℕ))
      → (replied tag store (h >>= λ done. Ok (record { uploads = without_upload conn stream store.uploads; cache = done.0 }, Packet done.1))).1 ≡ Begins p → ⊥
  stored-answers stream (Ok done) e = packet-is done.1 p e
  stored-answers stream (Err (Code code)) e = cc
  stored-answers stream (Err OutOfMemory) e = cc

  finish-answers : (stream : ℕ) (h : Handled Sample)
      → (replied tag store (h >>= λ sample. finish tag sample store.cache >>= λ done. Ok (record { uploads = without_upload conn stream store.uploads; cache = done.0 }, Packet done.1))).1 ≡ Begins p → ⊥
  finish-answers stream (Ok sample) e = stored-answers stream (finish tag sample store.cache) e
  finish-answers stream (Err (Code code)) e = cc
  finish-answers stream (Err OutOfMemory) e = cc

  play-answers : (h : Handled Play) → (replied tag store (h >>= λ q. Ok (store, Begins q))).1 ≡ Begins p → h ≡ Ok p
  play-answers (Ok q) e = same-play q p e
  play-answers (Err (Code code)) e = absurd cc
  play-answers (Err OutOfMemory) e = absurd cc

  asks : (read : Result Request CmdFault) → (requested conn plays tag store read).1 ≡ Begins p → sample_named (name_in read) store.cache ≡ Some p.sample
  asks (Ok (Upload a)) e = absurd (uploads-answer (create conn tag a store.uploads) e)
  asks (Ok (Delete stream)) e = absurd (uploads-answer (delete conn tag stream store.uploads) e)
  asks (Ok (Finish stream)) e = absurd (finish-answers stream (finished conn stream store.uploads) e)
  asks (Ok (play a)) e =
      begins-from a.sink (volume_of a.volume) p (sample_named a.name store.cache) (is_volume a.volume) (nat_lt plays.under_way MOST_PLAYS) (not plays.closed) (is_clear a.sink) (is_name (SinkRef.name a.sink))
      (play-answers (begun plays a store.cache) e)
  asks (Ok (Remove name)) e = absurd (cache-answers (remove tag name store.cache) e)
  asks (Err (Protocol fault)) e = absurd cc
  asks (Err (Unknown number)) e = absurd cc
  asks (Err (Unsupported number)) e = absurd cc
  asks (Err NoMemory) e = absurd cc

heads-ask : (conn : ConnId) (plays : Plays) (store : Store) (p : Play) (head : Result ((ℕ × ℕ) × Place) TagFault) → (after_head conn plays store head).1 ≡ Begins p
    → sample_named (name_in (request_after head)) store.cache ≡ Some p.sample
heads-ask conn plays store p (Err fault) e = absurd cc
heads-ask conn plays store p (Ok head) e = asks conn plays head.0.1 store p (request_at head.0.0 head.1) e

pub play-kept : (s : Sampler) (conn : ConnId) (packet : List ℕ) (p : Play) → (answered_by s conn packet).1 ≡ Begins p → sample_named (name_in (meant packet)) s.store.cache ≡ Some p.sample
unfolding meant
play-kept s conn packet p e = heads-ask conn (under_way s.course) s.store p (head_at (start_of packet)) e

-- ---- what leaves the samples as they are

seen-kept : (effects : List Effect) (store : Store) → (store_seen effects store).cache ≡ store.cache
seen-kept [] store = refl
seen-kept (Sent to frame ∷ effects) store = seen-kept effects store
seen-kept (Closed to reason fault at ∷ effects) store = seen-kept effects (store_forgotten to store)

items-kept : (s : Sampler) (list : List Item) → (after_items s list).store.cache ≡ s.store.cache
items-kept s list = seen-kept (shown_by s.world list) s.store

delete-kept : (due : List ℕ) (s : Sampler) → (after_delete_of due s).store.cache ≡ s.store.cache
delete-kept [] s = refl
delete-kept (stream ∷ due) s = seen-kept (shown_by s.world (delete_items_of (stream ∷ due))) s.store

deletes-kept : (most : ℕ) (s : Sampler) → (deleted_by most s).store.cache ≡ s.store.cache
deletes-kept zero s = refl
deletes-kept (suc most) s = deletes-kept most (after_delete s) ∙ delete-kept s.course.due s

lone-kept : (s : Sampler) (e : Event) → (after_lone s e).store.cache ≡ s.store.cache
lone-kept s e = deletes-kept (most_due (after_items s (alone e)).course) (after_items s (alone e)) ∙ items-kept s (alone e)

-- ---- pieces

uploaded-kept : (s : Sampler) (conn : ConnId) (body : Body) → (uploaded s conn body).store.cache ≡ s.store.cache
uploaded-kept s conn (Control packet) = refl
uploaded-kept s conn (write stream offset seek bytes) =
    cond_both (follows offset seek) (record s.store.uploads { list = change_first (is_upload conn stream) (added bytes) s.store.uploads.list }) s.store.uploads
    (λ (u : Uploads). (record s.store { uploads = u }).cache ≡ s.store.cache) (λ e. refl) (λ e. refl)

handled-kept : (s : Sampler) (conn : ConnId) (piece : Piece) → (handled_in s conn piece).store.cache ≡ fold changed s.store.cache (piece_changes s conn piece)
handled-kept s conn (Pass frame) = refl
handled-kept s conn (Broken bytes) = refl
handled-kept s conn (Write frame) =
    cond_both (is_taken s.store conn frame.body) (uploaded s conn frame.body) s (λ (t : Sampler). t.store.cache ≡ s.store.cache) (λ e. uploaded-kept s conn frame.body) (λ e. refl)
handled-kept s conn (Own frame) = command-kept s conn (packet_of frame.body)

piece-kept : (s : Sampler) (conn : ConnId) (piece : Piece) → (after_whole s conn piece).store.cache ≡ fold changed s.store.cache (piece_changes s conn piece)
piece-kept s conn piece =
    deletes-kept (most_due (with_piece s conn piece).course) (with_piece s conn piece)
    ∙ items-kept (handled_in s conn piece) (piece_items s conn piece)
    ∙ handled-kept s conn piece

segments-kept : (s : Sampler) (conn : ConnId) (segments : List Segment) → (after_segments s conn segments).store.cache ≡ fold changed s.store.cache (segments_changes s conn segments)
segments-kept s conn [] = refl
segments-kept s conn (segment ∷ segments) =
    let first = piece_changes (handed_out s conn) conn (piece_for s conn segment) in
    let later = segments_changes (after_segment s conn segment) conn segments in
    segments-kept (after_segment s conn segment) conn segments
    ∙ ap (λ c. fold changed c later) (piece-kept (handed_out s conn) conn (piece_for s conn segment))
    ∙ sym (fold-append changed s.store.cache first later)

-- ---- events

event-kept : (s : Sampler) (e : Event) → (sampler_after s e).store.cache ≡ fold changed s.store.cache (changes_in s e)
event-kept s (Connect conn) = lone-kept s (Connect conn)
event-kept s (Bytes conn bytes) = segments-kept (hearing s conn bytes) conn (to_hand_out (hearing s conn bytes) conn)
event-kept s (Close conn) = lone-kept s (Close conn)
event-kept s (Cut conn) = lone-kept s (Cut conn)
event-kept s (Turn sink frames n) = lone-kept s (Turn sink frames n)
event-kept s (Collect sink n) = lone-kept s (Collect sink n)
event-kept s (Stop sink) = lone-kept s (Stop sink)

pub run-kept : (s : Sampler) (events : List Event) → (sampler_by s events).store.cache ≡ fold changed s.store.cache (changes_by s events)
run-kept s [] = refl
run-kept s (e ∷ events) =
    run-kept (sampler_after s e) events
    ∙ ap (λ c. fold changed c (changes_by (sampler_after s e) events)) (event-kept s e)
    ∙ sym (fold-append changed s.store.cache (changes_in s e) (changes_by (sampler_after s e) events))

-- ---- the frames of a play

pub play-written : (s : Sampler) (conn : ConnId) (frame : Frame) (p : Play) (stream input : ℕ) → (answered_by s conn (packet_of frame.body)).1 ≡ Begins p → created s.world p ≡ Made stream input
    → piece_items s conn (Own frame) ≡ own (create_frame NO_STREAM p) ∷ Reply (sending conn (played_reply (tag_in (packet_of frame.body)) input))
    ∷ own (data_frame stream p.sample) ∷ own (drain_frame stream stream) ∷ []
play-written s conn frame p stream input begins makes =
    let tag = tag_in (packet_of frame.body) in
    ap (λ a. answer_items s.world conn frame.at tag a) begins
    ∙ ap (λ c. own (create_frame NO_STREAM p) ∷ Reply (sending conn (play_reply tag c)) ∷ filling p c) makes
