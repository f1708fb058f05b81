-- One turn more in a sink's history.
use Rattle.std.proofs.Common.{◌≡◌, ℕ, zero, suc, ◌-◌, List, [], ◌∷◌, ◌++◌, length, take, refl, ap, sym, ◌∙◌, arith, subst, append_assoc, true, false, true≢false, Option, Some, None, length-append}
use Rattle.std.specs.Prelude.{flat_map}
use Rattle.std.specs.List.{concat}
use Rattle.std.proofs.lemmas.List.{append-nil}
use Rattle.std.proofs.Math.Seq.{take-nil}
use Rattle.std.proofs.lemmas.Grind.{flat_map-append}
use Rattle.std.proofs.lemmas.List.Folds.{concat-append}
use Rattle.px_ends.specs.Visible.{WhereVisible}
use Rattle.px_ends.specs.Device.{DeviceState, with_front}
use Rattle.px_model.specs.Stream.{Stream}
use Rattle.px_model.specs.Message.{Message}
use Rattle.px_model.specs.Notice.{Notice}
use Rattle.px_model.specs.Sink.{Sink}
use Rattle.px_model.specs.Turn.{turned, stopped_turn, played_by}
use Rattle.px_model.specs.Deciding.{Entry, turn, stop, sink_after, notices_of, played_of, messages_of, replay, replay_notices, replay_played, CanBe, IsHistory}
use Rattle.px_model.proofs.Replays.{replay_joins, notices_join, played_join}
use Rattle.px_stream.specs.Samples.{samples}
use Rattle.px_lane.specs.Lane.{played_more}
use Rattle.px_lane_cell.specs.History.{unturned, left_at_stop, ArePlayed, IsAfter}

-- ---- what waited when it stopped

stays : (sink : Sink) (history : List Entry) → sink.stopped ≡ true → (replay samples sink history).stopped ≡ true
stays sink [] h = h
stays sink (turn n messages ∷ history) h = stays (turned samples sink n messages) history h
stays sink (stop messages ∷ history) h = stays (stopped_turn sink messages) history refl

none_left : (sink : Sink) (history : List Entry) → (replay samples sink history).stopped ≡ false → left_at_stop sink history ≡ []
none_left sink [] h = refl
none_left sink (turn n messages ∷ history) h = none_left (turned samples sink n messages) history h
none_left sink (stop messages ∷ history) h = absurd (true≢false (sym (stays (stopped_turn sink messages) history refl) ∙ h))

left_on : (sink : Sink) (history : List Entry) (n : ℕ) (messages : List (Message Stream)) → left_at_stop sink (history ++ turn n messages ∷ []) ≡ left_at_stop sink history
left_on sink [] n messages = refl
left_on sink (turn m others ∷ history) n messages = left_on (turned samples sink m others) history n messages
left_on sink (stop others ∷ history) n messages = refl

left_first : (sink : Sink) (history : List Entry) (messages : List (Message Stream)) → (replay samples sink history).stopped ≡ false
    → left_at_stop sink (history ++ stop messages ∷ []) ≡ (replay samples sink history).buffer
left_first sink [] messages h = refl
left_first sink (turn m others ∷ history) messages h = left_first (turned samples sink m others) history messages h
left_first sink (stop others ∷ history) messages h = absurd (true≢false (sym (stays (stopped_turn sink others) history refl) ∙ h))

left_again : (sink : Sink) (history : List Entry) (messages : List (Message Stream)) → sink.stopped ≡ false → (replay samples sink history).stopped ≡ true
    → left_at_stop sink (history ++ stop messages ∷ []) ≡ left_at_stop sink history
left_again sink [] messages h e = absurd (true≢false (sym e ∙ h))
left_again sink (turn m others ∷ history) messages h e = left_again (turned samples sink m others) history messages h e
left_again sink (stop others ∷ history) messages h e = refl

-- ---- what was played

no_front : (n : ℕ) → take {A = ℕ} n [] ≡ []
no_front n = take-nil n

taken_front : (n : ℕ) (xs : List ℕ) → take (length (take n xs)) xs ≡ take n xs
taken_front n [] = take-nil (length (take {A = ℕ} n [])) ∙ sym (take-nil n)
taken_front zero (x ∷ xs) = refl
taken_front (suc n) (x ∷ xs) = ap (λ l. x ∷ l) (taken_front n xs)

added_back : (xs ys : List ℕ) → length (xs ++ ys) - length xs ≡ length ys
added_back xs ys = omega (arith, length-append xs ys)

-- nothing waited: all that was played is the turns'
all_played : (all bytes : List ℕ) → ArePlayed all [] bytes → bytes ≡ all
all_played all bytes h = h ∙ ap (λ l. all ++ l) (no_front (length bytes - length all)) ∙ append-nil all

plays_on : (buffer played played' : Option (List ℕ)) (bytes all all' left left' : List ℕ) → played' ≡ played_more buffer played bytes → left ≡ [] → left' ≡ [] → all' ≡ all ++ bytes
    → WhereVisible played (ArePlayed all left) → WhereVisible played' (ArePlayed all' left')
plays_on None played played' bytes all all' left left' e none none' more h = subst (λ p. WhereVisible p (ArePlayed all' left')) (sym e) tt
plays_on (Some buffer) None played' bytes all all' left left' e none none' more h = subst (λ p. WhereVisible p (ArePlayed all' left')) (sym e) tt
plays_on (Some buffer) (Some old) played' bytes all all' left left' e none none' more h =
    let before : old ≡ all = all_played all old (subst (λ l. ArePlayed all l old) none h) in
    let now : old ++ bytes ≡ all' = ap (λ l. l ++ bytes) before ∙ sym more in
    let rest : take (length (old ++ bytes) - length all') left' ≡ [] = ap (take (length (old ++ bytes) - length all')) none' ∙ no_front (length (old ++ bytes) - length all') in
    subst (λ p. WhereVisible p (ArePlayed all' left')) (sym e) (now ∙ sym (append-nil all') ∙ ap (λ l. all' ++ l) (sym rest))

stops_now : (n : ℕ) (buffer played played' : Option (List ℕ)) (all all' left left' : List ℕ) → played' ≡ with_front n buffer played → left ≡ [] → all' ≡ all → WhereVisible buffer (λ bytes. bytes ≡ left')
    → WhereVisible played (ArePlayed all left) → WhereVisible played' (ArePlayed all' left')
stops_now n None played played' all all' left left' e none same waits h = subst (λ p. WhereVisible p (ArePlayed all' left')) (sym e) tt
stops_now n (Some buffer) None played' all all' left left' e none same waits h = subst (λ p. WhereVisible p (ArePlayed all' left')) (sym e) tt
stops_now n (Some buffer) (Some old) played' all all' left left' e none same waits h =
    let before : old ≡ all' = all_played all old (subst (λ l. ArePlayed all l old) none h) ∙ sym same in
    let front : take n buffer ≡ take n left' = ap (take n) waits in
    let count : length (old ++ take n buffer) - length all' ≡ length (take n left') =
    ap (λ l. length (l ++ take n buffer) - length all') before ∙ added_back all' (take n buffer) ∙ ap length front in
    let rest : take (length (old ++ take n buffer) - length all') left' ≡ take n left' = ap (λ k. take k left') count ∙ taken_front n left' in
    subst (λ p. WhereVisible p (ArePlayed all' left')) (sym e) ((λ k. before k ++ front k) ∙ ap (λ l. all' ++ l) (sym rest))

-- ---- one turn more

is_one_more : (sink : Sink) (history : List Entry) (e : Entry) → IsHistory samples sink history → CanBe (replay samples sink history) e → IsHistory samples sink (history ++ e ∷ [])
is_one_more sink [] e h can = (can, tt)
is_one_more sink (o ∷ history) e h can = (h.0, is_one_more (sink_after samples sink o) history e h.1 can)

pub same_start : (sink : Sink) (e : Entry) → unturned (sink_after samples sink e) ≡ unturned sink
same_start sink (turn n messages) = refl
same_start sink (stop messages) = refl

-- what was played of it and what waited, before and after
abbrev pub Sounds : Sink → List Entry → DeviceState → Type 0
Sounds sink history device =
    WhereVisible device.played (ArePlayed (concat (replay_played samples (unturned sink) history)) (concat (left_at_stop (unturned sink) history)))

pub one_more : (device device' : DeviceState) (sink : Sink) (history : List Entry) (taken held got : List (Message Stream)) (posted left posted' left' gone notices : List (Notice Stream)) (e : Entry)
    → IsAfter device sink history taken held posted left
    → CanBe sink e
    → messages_of e ≡ held ++ got
    → notices ≡ left ++ notices_of samples sink e
    → posted' ≡ posted ++ gone
    → notices ≡ gone ++ left'
    → Sounds sink (history ++ e ∷ []) device'
    → IsAfter device' (sink_after samples sink e) (history ++ e ∷ []) (taken ++ got) [] posted' left'
one_more device device' sink history taken held got posted left posted' left' gone notices e h can all noticed post rest sounds =
    let start = unturned sink in
    let begins : start ≡ unturned (sink_after samples sink e) = sym (same_start sink e) in
    let turns : IsHistory samples start (history ++ e ∷ []) = is_one_more start history e h.turns (subst (λ s. CanBe s e) h.replayed can) in
    let after : sink_after samples sink e ≡ replay samples start (history ++ e ∷ []) = ap (λ s. sink_after samples s e) h.replayed ∙ sym (replay_joins samples start history (e ∷ [])) in
    let messages : taken ++ got ≡ flat_map messages_of (history ++ e ∷ []) ++ [] =
    ap (λ l. l ++ got) h.messages
    ∙ append_assoc (flat_map messages_of history) held got
    ∙ ap (λ l. flat_map messages_of history ++ l) (sym all ∙ sym (append-nil (messages_of e)))
    ∙ sym (flat_map-append messages_of history (e ∷ []))
    ∙ sym (append-nil (flat_map messages_of (history ++ e ∷ []))) in
    let notes : replay_notices samples start (history ++ e ∷ []) ≡ posted' ++ left' =
    notices_join samples start history (e ∷ [])
    ∙ ap (λ l. replay_notices samples start history ++ l) (append-nil (notices_of samples (replay samples start history) e))
    ∙ (λ k. h.notices k ++ notices_of samples (sym h.replayed k) e)
    ∙ append_assoc posted left (notices_of samples sink e)
    ∙ ap (λ l. posted ++ l) (sym noticed ∙ rest)
    ∙ sym (append_assoc posted gone left')
    ∙ ap (λ l. l ++ left') (sym post) in
    record {
      turns = subst (λ s. IsHistory samples s (history ++ e ∷ [])) begins turns;
      replayed = subst (λ s. sink_after samples sink e ≡ replay samples s (history ++ e ∷ [])) begins after;
      messages = messages;
      notices = subst (λ s. replay_notices samples s (history ++ e ∷ []) ≡ posted' ++ left') begins notes;
      played = subst (λ s. WhereVisible device'.played (ArePlayed (concat (replay_played samples s (history ++ e ∷ []))) (concat (left_at_stop s (history ++ e ∷ []))))) begins sounds;
    }

-- ---- what was played after it

all_more : (sink : Sink) (history : List Entry) (e : Entry) → concat (replay_played samples sink (history ++ e ∷ [])) ≡ concat (replay_played samples sink history) ++ concat (played_of (replay samples sink history) e)
all_more sink history e =
    ap concat (played_join samples sink history (e ∷ []))
    ∙ concat-append (replay_played samples sink history) (played_of (replay samples sink history) e ++ [])
    ∙ ap (λ l. concat (replay_played samples sink history) ++ concat l) (append-nil (played_of (replay samples sink history) e))

pub sounds_on : (device device' : DeviceState) (sink : Sink) (history : List Entry) (taken held : List (Message Stream)) (posted left : List (Notice Stream)) (n : ℕ) (messages : List (Message Stream))
    → IsAfter device sink history taken held posted left
    → sink.stopped ≡ false
    → device'.played ≡ played_more device.buffer device.played (concat (played_by sink n))
    → Sounds sink (history ++ turn n messages ∷ []) device'
sounds_on device device' sink history taken held posted left n messages h going played =
    let start = unturned sink in
    let goes : (replay samples start history).stopped ≡ false = ap (λ (s : Sink). s.stopped) (sym h.replayed) ∙ going in
    let none = none_left start history goes in
    plays_on device.buffer device.played device'.played (concat (played_by sink n)) (concat (replay_played samples start history)) (concat (replay_played samples start (history ++ turn n messages ∷ [])))
    (concat (left_at_stop start history)) (concat (left_at_stop start (history ++ turn n messages ∷ [])))
    played (ap concat none) (ap concat (left_on start history n messages ∙ none))
    (all_more start history (turn n messages) ∙ ap (λ s. concat (replay_played samples start history) ++ concat (played_by s n)) (sym h.replayed))
    h.played

pub stops_first : (device device' : DeviceState) (sink : Sink) (history : List Entry) (taken held : List (Message Stream)) (posted left : List (Notice Stream)) (n : ℕ) (messages : List (Message Stream))
    → IsAfter device sink history taken held posted left
    → sink.stopped ≡ false
    → WhereVisible device.buffer (λ bytes. bytes ≡ concat sink.buffer)
    → device'.played ≡ with_front n device.buffer device.played
    → Sounds sink (history ++ stop messages ∷ []) device'
stops_first device device' sink history taken held posted left n messages h going buffer played =
    let start = unturned sink in
    let goes : (replay samples start history).stopped ≡ false = ap (λ (s : Sink). s.stopped) (sym h.replayed) ∙ going in
    let waits : concat sink.buffer ≡ concat (left_at_stop start (history ++ stop messages ∷ [])) =
    ap (λ (s : Sink). concat s.buffer) h.replayed ∙ ap concat (sym (left_first start history messages goes)) in
    stops_now n device.buffer device.played device'.played (concat (replay_played samples start history)) (concat (replay_played samples start (history ++ stop messages ∷ [])))
    (concat (left_at_stop start history)) (concat (left_at_stop start (history ++ stop messages ∷ [])))
    played (ap concat (none_left start history goes)) (all_more start history (stop messages) ∙ append-nil (concat (replay_played samples start history)))
    (subst (λ l. WhereVisible device.buffer (λ bytes. bytes ≡ l)) waits buffer)
    h.played

pub stops_again : (device device' : DeviceState) (sink : Sink) (history : List Entry) (taken held : List (Message Stream)) (posted left : List (Notice Stream)) (messages : List (Message Stream))
    → IsAfter device sink history taken held posted left
    → sink.stopped ≡ true
    → device' ≡ device
    → Sounds sink (history ++ stop messages ∷ []) device'
stops_again device device' sink history taken held posted left messages h stopped same =
    let start = unturned sink in
    let is : (replay samples start history).stopped ≡ true = ap (λ (s : Sink). s.stopped) (sym h.replayed) ∙ stopped in
    let all : concat (replay_played samples start (history ++ stop messages ∷ [])) ≡ concat (replay_played samples start history) = all_more start history (stop messages) ∙ append-nil (concat (replay_played samples start history)) in
    let left_same = ap concat (left_again start history messages refl is) in
    subst (λ (d : DeviceState). WhereVisible d.played (ArePlayed (concat (replay_played samples start (history ++ stop messages ∷ []))) (concat (left_at_stop start (history ++ stop messages ∷ []))))) (sym same)
    (subst (λ (p : List ℕ × List ℕ). WhereVisible device.played (ArePlayed p.0 p.1)) (λ k. (sym all k, sym left_same k)) h.played)
