-- How the parts of the dialogue join.
use Rattle.std.proofs.Common.{◌≡◌, ℕ, List, [], ◌∷◌, ◌++◌, Option, Result, Ok, Err, refl, ap, sym, subst, ◌∙◌, append-nil, append_assoc}
use Rattle.px_ends.specs.Links.{LinkCounts}
use Rattle.px_ends.specs.Visible.{before_taking, after_adding}
use Rattle.px_ends.specs.Whole.{AddsFront}
use Rattle.px_ends.proofs.VisibleBytes.{taking_nothing, taking_both, adding_nothing, adding_both}
use Rattle.px_frame.specs.declared.frame.Frame.{Frame}
use Rattle.px_frame.specs.Meaning.{frames_in}
use Rattle.px_client.specs.declared.errand.Errand.{Errand}
use Rattle.px_client.specs.declared.errand.Errand.TheVariants as errands
use Rattle.px_client.specs.declared.awaited.Awaited.{Awaited}
use Rattle.px_client.specs.declared.awaited.Awaited.TheVariants as awaits
use Rattle.px_client.specs.declared.hearing.Hearing.{Hearing}
use Rattle.px_client.specs.declared.inputs.Input.{Input}
use Rattle.px_client.specs.declared.end.ClientEnd.{ClientEnd}
use Rattle.px_client.specs.declared.end.ClientEnd.TheVariants as ends
use Rattle.px_client.specs.Dialogue.{Stage, Waiting, Done, last_awaited, stage_after, stage_from, stage_of}
use Rattle.px_client.specs.Causes.{EndsBy, SendFails, IsSound, EndCounts, Counts}
use Rattle.px_client.specs.Errand.{sent_for}
use Rattle.px_client.specs.Hearing.{left_of, HasHeard, HearsTo, Replies}
use Rattle.px_client.specs.Outcome.{LinkState, Sends, Talks, Says, Converses, Prints, SendsBy, ShowsBy, Runs}
use Rattle.px_client.proofs.Heard.{brought}
use Rattle.px_client.proofs.Loops.{sound_still, counts_after}

-- ---- what is sent

pub front_more : (a b : List ℕ) (old new : Option (List ℕ)) → AddsFront a old new → AddsFront (a ++ b) old new
front_more a b old new f = record {
  front = f.front;
  rest = f.rest ++ b;
  joined = ap (λ (x : List ℕ). x ++ b) f.joined ∙ append_assoc f.front f.rest b;
  held = f.held;
}

pub front_none : (bytes : List ℕ) (old : Option (List ℕ)) → AddsFront bytes old old
front_none bytes old = record { front = []; rest = bytes; joined = refl; held = sym (adding_nothing old) }

pub front_whole : (bytes : List ℕ) (old new : Option (List ℕ)) → new ≡ after_adding old bytes → AddsFront bytes old new
front_whole bytes old new e = record { front = bytes; rest = []; joined = sym (append-nil bytes); held = e }

front_later : (a b : List ℕ) (old mid new : Option (List ℕ)) → mid ≡ after_adding old a → AddsFront b mid new → AddsFront (a ++ b) old new
front_later a b old mid new e f = record {
  front = a ++ f.front;
  rest = f.rest;
  joined = ap (λ (x : List ℕ). a ++ x) f.joined ∙ sym (append_assoc a f.front f.rest);
  held = f.held ∙ ap (λ (m : Option (List ℕ)). after_adding m f.front) e ∙ adding_both a f.front old;
}

sends_both : {X : Type 0} (result : Result X ClientEnd) (a b : List ℕ) (old mid new : Option (List ℕ)) → mid ≡ after_adding old a → Sends result b mid new → Sends result (a ++ b) old new
sends_both (Ok x) a b old mid new e s = s ∙ ap (λ (m : Option (List ℕ)). after_adding m b) e ∙ adding_both a b old
sends_both (Err end) a b old mid new e s = front_later a b old mid new e s

-- ---- parts of the dialogue

pub talks_both : {X Y : Type 0} (errand : Errand) (x : X) (result : Result Y ClientEnd) (a b : List ℕ) (from : Stage) (mid : X → Stage) (to : Y → Stage) (e f g : Hearing) (s t u : LinkState)
    → Talks errand (Ok x) a from mid e f s t → Talks errand result b (mid x) to f g t u → Talks errand result (a ++ b) from to e g s u
talks_both errand x result a b from mid to e f g s t u one two = record {
  piece = one.piece ++ two.piece;
  departed = one.departed ∙ ap (before_taking one.piece) two.departed ∙ taking_both one.piece two.piece u.left;
  hears = λ heard h. subst (λ (bytes : List ℕ). HearsTo result errand to g bytes) (append_assoc heard one.piece two.piece) (two.hears (heard ++ one.piece) (one.hears heard h));
  sends = sends_both result a b s.sent t.sent u.sent one.sends two.sends;
  counts = counts_after s.counts t.counts u.counts result one.counts two.counts;
}

-- it ended before more was sent
pub talks_less : {X Y : Type 0} (errand : Errand) (end : ClientEnd) (a b : List ℕ) (from : Stage) (mid : X → Stage) (to : Y → Stage) (e f : Hearing) (s t : LinkState)
    → Talks errand (Err end) a from mid e f s t → Talks errand (Err end) (a ++ b) from to e f s t
talks_less errand end a b from mid to e f s t one = record {
  piece = one.piece;
  departed = one.departed;
  hears = one.hears;
  sends = front_more a b s.sent t.sent one.sends;
  counts = one.counts;
}

-- what it was asked with doesn't matter where it ended, nor where its stage is the same
pub talks_err : {X Y : Type 0} (errand : Errand) (end : ClientEnd) (bytes : List ℕ) (from : Stage) (mid : X → Stage) (to : Y → Stage) (e f : Hearing) (s t : LinkState)
    → Talks errand (Err end) bytes from mid e f s t → Talks errand (Err end) bytes from to e f s t
talks_err errand end bytes from mid to e f s t one = record {
  piece = one.piece;
  departed = one.departed;
  hears = one.hears;
  sends = one.sends;
  counts = one.counts;
}

pub talks_ok : {X Y : Type 0} (errand : Errand) (x : X) (y : Y) (bytes : List ℕ) (from : Stage) (mid : X → Stage) (to : Y → Stage) (e f : Hearing) (s t : LinkState) → mid x ≡ to y
    → Talks errand (Ok x) bytes from mid e f s t → Talks errand (Ok y) bytes from to e f s t
talks_ok errand x y bytes from mid to e f s t same one = record {
  piece = one.piece;
  departed = one.departed;
  hears = λ heard h. subst (λ (stage : Stage). HasHeard errand f (heard ++ one.piece) stage) same (one.hears heard h);
  sends = one.sends;
  counts = one.counts;
}

-- the bytes that were sent, under another name
pub talks_as : {X : Type 0} (errand : Errand) (result : Result X ClientEnd) (frame bytes : List ℕ) (from : Stage) (to : X → Stage) (e f : Hearing) (s t : LinkState) → frame ≡ bytes
    → Talks errand result frame from to e f s t → Talks errand result bytes from to e f s t
talks_as errand result frame bytes from to e f s t is one = subst (λ (b : List ℕ). Talks errand result b from to e f s t) is one

-- there was no memory for what to send
pub talks_none : {X : Type 0} (errand : Errand) (bytes : List ℕ) (from : Stage) (to : X → Stage) (e : Hearing) (s : LinkState) → Talks errand (Err ends.Memory) bytes from to e e s s
talks_none errand bytes from to e s = record {
  piece = [];
  departed = sym (taking_nothing s.left);
  hears = λ heard h. tt;
  sends = front_none bytes s.sent;
  counts = sound_still s.counts;
}

sending_ends : (errand : Errand) (bytes : List ℕ) (end : ClientEnd) → SendFails end → EndsBy errand bytes end
sending_ends errand bytes ends.Host fails = tt
sending_ends errand bytes ends.Silent fails = tt
sending_ends errand bytes ends.Ok fails = absurd fails
sending_ends errand bytes ends.Memory fails = absurd fails
sending_ends errand bytes ends.WriteFault fails = absurd fails
sending_ends errand bytes ends.Gone fails = absurd fails
sending_ends errand bytes (ends.Denied code) fails = absurd fails
sending_ends errand bytes (ends.BadReply at) fails = absurd fails

-- a send failed
pub talks_unsent : {X : Type 0} (errand : Errand) (end : ClientEnd) (bytes : List ℕ) (from : Stage) (to : X → Stage) (e : Hearing) (s t : LinkState)
    → SendFails end → t.left ≡ s.left → AddsFront bytes s.sent t.sent → EndCounts end s.counts t.counts → Talks errand (Err end) bytes from to e e s t
talks_unsent errand end bytes from to e s t fails same sends counts = record {
  piece = [];
  departed = sym same ∙ sym (taking_nothing t.left);
  hears = λ heard h. sending_ends errand (heard ++ []) end fails;
  sends = sends;
  counts = counts;
}

-- all was sent, and then the reply was heard, or not
pub talks_sent : (errand : Errand) (awaited : Awaited) (result : Result (List Input) ClientEnd) (bytes : List ℕ) (e f : Hearing) (s t u : LinkState)
    → t.left ≡ s.left → t.sent ≡ after_adding s.sent bytes → IsSound s.counts t.counts → Replies result awaited e f t.left u.left → u.sent ≡ t.sent → Counts result t.counts u.counts
    → Talks errand result bytes (Waiting awaited) (stage_after errand awaited) e f s u
talks_sent errand awaited result bytes e f s t u same sent counts replies still later = record {
  piece = replies.piece;
  departed = sym same ∙ replies.departed;
  hears = λ heard h. replies.hears errand heard h;
  sends = sends_all result (still ∙ sent);
  counts = counts_after s.counts t.counts u.counts result counts later;
}
  where
    sends_all : (result : Result (List Input) ClientEnd) → u.sent ≡ after_adding s.sent bytes → Sends result bytes s.sent u.sent
    sends_all (Ok inputs) e = e
    sends_all (Err end) e = front_whole bytes s.sent u.sent e

-- ---- the whole

pub done_stays : (errand : Errand) (inputs : List Input) (frames : List Frame) → stage_from errand (Done inputs) frames ≡ Done inputs
done_stays errand inputs [] = refl
done_stays errand inputs (frame ∷ frames) = done_stays errand inputs frames

pub last_ends : (errand : Errand) (inputs : List Input) → stage_after errand (last_awaited errand) inputs ≡ Done inputs
last_ends errands.List inputs = refl
last_ends (errands.Volume input value) inputs = refl
last_ends (errands.Mute input on) inputs = refl
last_ends (errands.SinkVolume name value) inputs = refl
last_ends (errands.Move input name) inputs = refl
last_ends (errands.Kill input) inputs = refl

said : (errand : Errand) (result : Result (List Input) ClientEnd) (ear : Hearing) (read : List ℕ) → HearsTo result errand (stage_after errand (last_awaited errand)) ear read → Says result errand read
said errand (Ok inputs) ear read h =
    brought errand ear read (stage_after errand (last_awaited errand) inputs) h (Done inputs)
    (ap (λ (s : Stage). stage_from errand s (left_of ear)) (last_ends errand inputs) ∙ done_stays errand inputs (left_of ear))
said errand (Err end) ear read h = h

pub conversed : (cookie : List ℕ) (errand : Errand) (result : Result (List Input) ClientEnd) (e f : Hearing) (s t : LinkState) → HasHeard errand e [] (Waiting awaits.Version)
    → Talks errand result (sent_for cookie errand) (Waiting awaits.Version) (stage_after errand (last_awaited errand)) e f s t → Converses result cookie errand s t
conversed cookie errand result e f s t new talks = record {
  read = talks.piece;
  departed = talks.departed;
  says = said errand result f talks.piece (talks.hears [] new);
  sends = talks.sends;
  counts = talks.counts;
}

pub conversed_none : (cookie : List ℕ) (errand : Errand) (s : LinkState) → Converses (Err ends.Memory) cookie errand s s
conversed_none cookie errand s = record {
  read = [];
  departed = sym (taking_nothing s.left);
  says = tt;
  sends = front_none (sent_for cookie errand) s.sent;
  counts = sound_still s.counts;
}

-- ---- the client

shown : (errand : Errand) (read : List ℕ) (inputs : List Input) (end : ClientEnd) (held held' : Option (List ℕ)) (faults faults' : ℕ) → stage_of errand (frames_in read) ≡ Done inputs → Prints end inputs held held' faults faults'
    → ShowsBy end errand read held held' faults faults'
shown errand read inputs ends.Ok held held' faults faults' done prints = (inputs, done, prints.0, prints.1)
shown errand read inputs ends.WriteFault held held' faults faults' done prints = (inputs, done, prints.0, prints.1)
shown errand read inputs ends.Memory held held' faults faults' done prints = (tt, prints.0, prints.1)
shown errand read inputs ends.Host held held' faults faults' done prints = absurd prints
shown errand read inputs ends.Gone held held' faults faults' done prints = absurd prints
shown errand read inputs ends.Silent held held' faults faults' done prints = absurd prints
shown errand read inputs (ends.Denied code) held held' faults faults' done prints = absurd prints
shown errand read inputs (ends.BadReply at) held held' faults faults' done prints = absurd prints

sent_by : (end : ClientEnd) (bytes : List ℕ) (old new : Option (List ℕ)) → new ≡ after_adding old bytes → SendsBy end bytes old new
sent_by ends.Ok bytes old new e = e
sent_by ends.WriteFault bytes old new e = e
sent_by ends.Memory bytes old new e = front_whole bytes old new e
sent_by ends.Host bytes old new e = front_whole bytes old new e
sent_by ends.Gone bytes old new e = front_whole bytes old new e
sent_by ends.Silent bytes old new e = front_whole bytes old new e
sent_by (ends.Denied code) bytes old new e = front_whole bytes old new e
sent_by (ends.BadReply at) bytes old new e = front_whole bytes old new e

print_counts : (end : ClientEnd) (inputs : List Input) (a b : LinkCounts) (held held' : Option (List ℕ)) (faults faults' : ℕ) → IsSound a b → Prints end inputs held held' faults faults' → EndCounts end a b
print_counts ends.Ok inputs a b held held' faults faults' s prints = s
print_counts ends.WriteFault inputs a b held held' faults faults' s prints = s
print_counts ends.Memory inputs a b held held' faults faults' s prints = s
print_counts ends.Host inputs a b held held' faults faults' s prints = absurd prints
print_counts ends.Gone inputs a b held held' faults faults' s prints = absurd prints
print_counts ends.Silent inputs a b held held' faults faults' s prints = absurd prints
print_counts (ends.Denied code) inputs a b held held' faults faults' s prints = absurd prints
print_counts (ends.BadReply at) inputs a b held held' faults faults' s prints = absurd prints

-- the last reply came
pub runs_on : (cookie : List ℕ) (errand : Errand) (inputs : List Input) (end : ClientEnd) (s t : LinkState) (held held' : Option (List ℕ)) (faults faults' : ℕ)
    → Converses (Ok inputs) cookie errand s t → Prints end inputs held held' faults faults' → Runs end cookie errand s t held held' faults faults'
runs_on cookie errand inputs end s t held held' faults faults' c prints = record {
  read = c.read;
  departed = c.departed;
  shows = shown errand c.read inputs end held held' faults faults' c.says prints;
  sends = sent_by end (sent_for cookie errand) s.sent t.sent c.sends;
  counts = print_counts end inputs s.counts t.counts held held' faults faults' c.counts prints;
}

unshown : (end : ClientEnd) (errand : Errand) (read : List ℕ) (held : Option (List ℕ)) (faults : ℕ) → EndsBy errand read end → ShowsBy end errand read held held faults faults
unshown ends.Ok errand read held faults e = absurd e
unshown ends.WriteFault errand read held faults e = absurd e
unshown ends.Memory errand read held faults e = (e, refl, refl)
unshown ends.Host errand read held faults e = (e, refl, refl)
unshown ends.Gone errand read held faults e = (e, refl, refl)
unshown ends.Silent errand read held faults e = (e, refl, refl)
unshown (ends.Denied code) errand read held faults e = (e, refl, refl)
unshown (ends.BadReply at) errand read held faults e = (e, refl, refl)

sent_front : (end : ClientEnd) (errand : Errand) (read bytes : List ℕ) (old new : Option (List ℕ)) → EndsBy errand read end → AddsFront bytes old new → SendsBy end bytes old new
sent_front ends.Ok errand read bytes old new e f = absurd e
sent_front ends.WriteFault errand read bytes old new e f = absurd e
sent_front ends.Memory errand read bytes old new e f = f
sent_front ends.Host errand read bytes old new e f = f
sent_front ends.Gone errand read bytes old new e f = f
sent_front ends.Silent errand read bytes old new e f = f
sent_front (ends.Denied code) errand read bytes old new e f = f
sent_front (ends.BadReply at) errand read bytes old new e f = f

-- it ended before
pub runs_not : (cookie : List ℕ) (errand : Errand) (end : ClientEnd) (s t : LinkState) (held : Option (List ℕ)) (faults : ℕ) → Converses (Err end) cookie errand s t → Runs end cookie errand s t held held faults faults
runs_not cookie errand end s t held faults c = record {
  read = c.read;
  departed = c.departed;
  shows = unshown end errand c.read held faults c.says;
  sends = sent_front end errand c.read (sent_for cookie errand) s.sent t.sent c.says c.sends;
  counts = c.counts;
}
