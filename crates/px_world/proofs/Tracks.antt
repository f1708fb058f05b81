-- The stretches that an input settles at a sink are those of the sink's own history.
use Rattle.std.proofs.Common.{◌≡◌, ℕ, Bool, true, false, cond, List, [], ◌∷◌, ◌++◌, map, append-nil, append_assoc, Some, refl, ap, sym, ◌∙◌}
use Rattle.std.specs.Prelude.{nat_eq, filter, option_map}
use Rattle.std.specs.List.{slice_get}
use Rattle.std.proofs.lemmas.Bool.{cond-true, cond-false, eqb-true}
use Rattle.std.proofs.lemmas.Option.{slice_get-map}
use Rattle.px_header.specs.declared.header.Header.{Header}
use Rattle.px_header.specs.declared.header.SinkSpec.{SinkSpec}
use Rattle.px_session.specs.declared.event.Event.{Event}
use Rattle.px_session.specs.declared.event.Event.TheVariants.{Connect, Bytes, Close, Cut, Turn, Collect, Stop}
use Rattle.px_model.specs.Sink.{Sink, stream_at}
use Rattle.px_model.specs.Deciding.{Entry, sink_after, replay}
use Rattle.px_model.specs.Track.{Stretch, stretches_from, track_of, forward_by}
use Rattle.px_stream.specs.Samples.{samples}
use Rattle.px_world.specs.World.{World, Mixer, new_mixer, new_world}
use Rattle.px_world.specs.Event.{world_after, messages_taken}
use Rattle.px_world.specs.History.{entry_of, entries_of, history_by, begun}
use Rattle.px_world.specs.Continuity.{settled_in, Settled, at_sink, settled_by, track_by, stretches_of, stretches_at}
use Rattle.px_world.proofs.Histories.{GoesThrough, goes_through}

-- ---- lists

pub map_join : (xs ys : List Settled) → stretches_of (xs ++ ys) ≡ stretches_of xs ++ stretches_of ys
map_join [] ys = refl
map_join (x ∷ xs) ys = ap (λ l. Settled.stretch x ∷ l) (map_join xs ys)

pub at-join : (k : ℕ) (xs ys : List Settled) → stretches_at k (xs ++ ys) ≡ stretches_at k xs ++ stretches_at k ys
at-join k [] ys = refl
at-join k (x ∷ xs) ys = go (nat_eq x.sink k) (at-join k xs ys)
  where
    go : (b : Bool) → stretches_at k (xs ++ ys) ≡ stretches_at k xs ++ stretches_at k ys → stretches_of (cond b (x ∷ filter (λ y. nat_eq (Settled.sink y) k) (xs ++ ys)) (filter (λ y. nat_eq (Settled.sink y) k) (xs ++ ys)))
        ≡ stretches_of (cond b (x ∷ filter (λ y. nat_eq (Settled.sink y) k) xs) (filter (λ y. nat_eq (Settled.sink y) k) xs)) ++ stretches_at k ys
    go true e = ap (λ l. x.stretch ∷ l) e
    go false e = e

-- what is settled at one sink, seen from another
at-one : (k sink : ℕ) (xs : List Stretch) → stretches_at k (map (at_sink sink) xs) ≡ cond (nat_eq sink k) xs []
at-one k sink xs = go (nat_eq sink k) refl xs
  where
    go : (b : Bool) → nat_eq sink k ≡ b → (ys : List Stretch) → stretches_at k (map (at_sink sink) ys) ≡ cond b ys []
    go true e [] = refl
    go false e [] = refl
    go true e (y ∷ ys) =
        ap stretches_of (cond-true (nat_eq sink k) (at_sink sink y ∷ filter (λ x. nat_eq (Settled.sink x) k) (map (at_sink sink) ys)) (filter (λ x. nat_eq (Settled.sink x) k) (map (at_sink sink) ys)) e)
        ∙ ap (λ l. y ∷ l) (go true e ys)
    go false e (y ∷ ys) =
        ap stretches_of (cond-false (nat_eq sink k) (at_sink sink y ∷ filter (λ x. nat_eq (Settled.sink x) k) (map (at_sink sink) ys)) (filter (λ x. nat_eq (Settled.sink x) k) (map (at_sink sink) ys)) e)
        ∙ go false e ys

tracks_join : (sink : Sink) (earlier later : List Entry) (i : ℕ) → track_of samples sink (earlier ++ later) i ≡ track_of samples sink earlier i ++ track_of samples (replay samples sink earlier) later i
tracks_join sink [] later i = refl
tracks_join sink (e ∷ earlier) later i =
    ap (λ l. stretches_from (stream_at i sink.inputs) (forward_by sink e) ++ l) (tracks_join (sink_after samples sink e) earlier later i)
    ∙ sym (append_assoc (stretches_from (stream_at i sink.inputs) (forward_by sink e)) (track_of samples (sink_after samples sink e) earlier i) (track_of samples (replay samples (sink_after samples sink e) earlier) later i))

-- ---- one event

turn-track : (w : World) (sink frames n k i : ℕ) (m : Mixer) → slice_get w.mixers k ≡ Some m → (b : Bool) → nat_eq sink k ≡ b
    → cond b (settled_in (slice_get w.mixers sink) frames (messages_taken w sink n) i) []
    ≡ track_of samples m.sink (cond b (entry_of (slice_get w.mixers sink) frames (messages_taken w sink n)) []) i
turn-track w sink frames n k i m there true e =
    let at : slice_get w.mixers sink ≡ Some m = ap (slice_get w.mixers) (eqb-true sink k e) ∙ there in
    ap (λ o. settled_in o frames (messages_taken w sink n) i) at
    ∙ sym (append-nil (settled_in (Some m) frames (messages_taken w sink n) i))
    ∙ ap (λ o. track_of samples m.sink (entry_of o frames (messages_taken w sink n)) i) (sym at)
turn-track w sink frames n k i m there false e = refl

event-track : (w : World) (e : Event) (k i : ℕ) (m : Mixer) → slice_get w.mixers k ≡ Some m → stretches_at k (settled_by w e i) ≡ track_of samples m.sink (entries_of w e k) i
event-track w (Connect conn) k i m there = refl
event-track w (Bytes conn bytes) k i m there = refl
event-track w (Close conn) k i m there = refl
event-track w (Cut conn) k i m there = refl
event-track w (Turn sink frames n) k i m there =
    at-one k sink (settled_in (slice_get w.mixers sink) frames (messages_taken w sink n) i) ∙ turn-track w sink frames n k i m there (nat_eq sink k) refl
event-track w (Collect sink n) k i m there = refl
event-track w (Stop sink) k i m there = refl

-- ---- a run

whole_from : (w : World) (events : List Event) (k i : ℕ) (m : Mixer) → slice_get w.mixers k ≡ Some m → stretches_at k (track_by w events i) ≡ track_of samples m.sink (history_by w events k) i
whole_from w [] k i m there = refl
whole_from w (e ∷ events) k i m there =
    let on : GoesThrough w e k m = goes_through w e k m there in
    at-join k (settled_by w e i) (track_by (world_after w e) events i)
    ∙ ap (λ l. l ++ stretches_at k (track_by (world_after w e) events i)) (event-track w e k i m there)
    ∙ ap (λ l. track_of samples m.sink (entries_of w e k) i ++ l) (whole_from (world_after w e) events k i on.next on.there)
    ∙ ap (λ s. track_of samples m.sink (entries_of w e k) i ++ track_of samples s (history_by (world_after w e) events k) i) on.sink
    ∙ sym (tracks_join m.sink (entries_of w e k) (history_by (world_after w e) events k) i)

pub whole : (header : Header) (events : List Event) (k i : ℕ) (s : SinkSpec) → slice_get header.sinks k ≡ Some s
    → stretches_at k (track_by (new_world header) events i) ≡ track_of samples (begun s) (history_by (new_world header) events k) i
whole header events k i s there =
    whole_from (new_world header) events k i (new_mixer s) (slice_get-map new_mixer header.sinks k ∙ ap (option_map new_mixer) there)
