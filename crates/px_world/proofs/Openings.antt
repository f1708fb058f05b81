-- Doors that are open to links stay so when a client connects, sends bytes or closes.
use Rattle.std.proofs.Common.{◌≡◌, ℕ, Bool, true, false, cond, List, [], ◌∷◌, ◌++◌, map, Option, None, Some, Result, refl, ap, sym, subst, ◌∙◌, ⊎_elim}
use Rattle.std.specs.Prelude.{nat_eq, option_map, IsSome}
use Rattle.std.specs.Option.{is_some}
use Rattle.std.specs.Ordering.{nat_cmp}
use Rattle.std.specs.BTreeMap.{is_at}
use Rattle.std.specs.Map.{lookup}
use Rattle.std.specs.Cmp.{unsigned_tied}
use Rattle.std.proofs.lemmas.Bool.{cases_Bool, cond-true, cond-false, eqb-true, eq-eqb}
use Rattle.px_types.specs.declared.ids.ConnId.{ConnId}
use Rattle.px_frame.specs.declared.fault.FrameError.{FrameError}
use Rattle.px_frame.specs.declared.frame.Frame.{Frame}
use Rattle.px_frame.specs.Progress.{Progress, HasFed, Answers, Leaves}
use Rattle.px_frame.specs.Meaning.{frames_in}
use Rattle.px_session.specs.declared.event.Event.TheVariants.{Connect, Bytes, Close}
use Rattle.px_world.specs.declared.fault.WorldFault.TheVariants.{Live, NotLive}
use Rattle.px_world.specs.World.{Link, is_of, link_of, received_of}
use Rattle.px_world.specs.Admission.{if_new, if_named}
use Rattle.px_world.specs.Event.{with_bytes, bytes_steps, links_after}
use Rattle.px_world.specs.Running.{Opens, decoder_of, Open, IsAnswered, steps_given}
use Rattle.px_world.proofs.Feeding.{fed-frames, steps-answered, fed-more}
use Rattle.px_world.proofs.Links.{same-link, is-of-found, apart-of, without, link-more, link-still, link-fed, link-gone, link-left}

-- ---- one door

-- where there is no door there is no link
no-link : (o : Option Link) → Opens None o → o ≡ None
no-link None opens = refl
no-link (Some link) opens = absurd opens

-- where there is one, the number is in use
in-use : (d : Option Progress) (o : Option Link) → is_some d ≡ true → Opens d o → (if_new o ≡ Some Live) × (if_named o ≡ None)
in-use None o e opens = absurd (subst (λ (b : Bool). cond b ⊥ (Unit {0})) e tt)
in-use (Some decoder) None e opens = absurd opens
in-use (Some decoder) (Some link) e opens = (refl, refl)

door-fed : (decoder : Progress) (o : Option Link) → Opens (Some decoder) o → HasFed decoder (received_of o) (frames_in (received_of o))
door-fed decoder None opens = absurd opens
door-fed decoder (Some link) opens = opens

pub none-there : (d : Option Progress) → is_some d ≡ false → d ≡ None
none-there None e = refl
none-there (Some decoder) e = absurd (subst (λ (b : Bool). cond b (Unit {0}) ⊥) e tt)

-- ---- an event

module _ (doors : List (ℕ × Progress)) (links : List Link) (conn : ConnId) (opened : Open doors links) where
  -- no door has the number: no link has it
  door-absent : decoder_of doors conn ≡ None → link_of links conn ≡ None
  door-absent none = no-link (link_of links conn) (subst (λ o. Opens o (link_of links conn)) none (opened conn))

  -- so it may be connected, and nothing else
  pub refused-absent : decoder_of doors conn ≡ None → (if_new (link_of links conn) ≡ None) × (if_named (link_of links conn) ≡ Some NotLive)
  refused-absent none = (ap if_new (door-absent none), ap if_named (door-absent none))

  -- a door has it: it may not be connected again
  pub refused-there : IsSome (decoder_of doors conn) → (if_new (link_of links conn) ≡ Some Live) × (if_named (link_of links conn) ≡ None)
  refused-there some = in-use (decoder_of doors conn) (link_of links conn) some (opened conn)

  module _ (decoder : Progress) (was : decoder_of doors conn ≡ Some decoder) where
    fed-so-far : HasFed decoder (received_of (link_of links conn)) (frames_in (received_of (link_of links conn)))
    fed-so-far = door-fed decoder (link_of links conn) (subst (λ o. Opens o (link_of links conn)) was (opened conn))

    -- what a feed of its decoder answers makes the steps of the core
    pub bytes-answered : (piece : List ℕ) (result : Result (List Frame) FrameError) → IsAnswered result
        → ((fed : List ℕ) (before : List Frame) → HasFed decoder fed before → Answers fed before piece result)
        → bytes_steps conn (received_of (link_of links conn)) piece ≡ steps_given conn result
    bytes-answered piece result some answers =
        steps-answered decoder (received_of (link_of links conn)) piece fed-so-far conn result some
        (answers (received_of (link_of links conn)) (frames_in (received_of (link_of links conn))) fed-so-far)

  -- the doors change at the number alone
  module _ (later : List (ℕ × Progress)) (now : Option Progress) (here : decoder_of later conn ≡ now) (others : (q : ℕ) → is_at (nat_cmp conn.0) q ≡ false → lookup (is_at (nat_cmp q)) later ≡ lookup (is_at (nat_cmp q)) doors) where
    -- so they are open to links that change at it alone
    opens-after : (after : List Link) → Opens now (link_of after conn) → ((other : ConnId) → nat_eq conn.0 other.0 ≡ false → Opens (decoder_of doors other) (link_of after other)) → Open later after
    opens-after after there rest = λ (other : ConnId).
        ⊎_elim
        (λ (same : nat_eq conn.0 other.0 ≡ true).
        let e : conn.0 ≡ other.0 = eqb-true conn.0 other.0 same in
        subst (λ o. Opens o (link_of after other)) (sym (ap (λ n. lookup (is_at (nat_cmp n)) later) (sym e) ∙ here))
        (subst (Opens now) (same-link after conn other e) there))
        (λ (apart : nat_eq conn.0 other.0 ≡ false).
        subst (λ o. Opens o (link_of after other)) (sym (others other.0 (unsigned_tied conn.0 other.0 ∙ apart))) (rest other apart))
        (cases_Bool (nat_eq conn.0 other.0))

    pub doors-connect : (new : Progress) → now ≡ Some new → HasFed new [] [] → decoder_of doors conn ≡ None → Open later (links_after links (Connect conn))
    doors-connect new is fed none =
        let link : Link = record { conn = conn; received = [] } in
        let found : link_of (links ++ link ∷ []) conn ≡ Some link = link-more links link conn (door-absent none) ∙ cond-true (is_of conn link) (Some link) None (eq-eqb conn.0 conn.0 refl) in
        opens-after (links ++ link ∷ [])
        (subst (λ o. Opens o (link_of (links ++ link ∷ []) conn)) (sym is)
        (subst (Opens (Some new)) (sym found) (subst (HasFed new []) (fed-frames new [] [] fed) fed)))
        (λ other apart. subst (Opens (decoder_of doors other)) (sym (link-still links link other apart)) (opened other))

    -- the client has closed
    pub doors-close : now ≡ None → Open later (links_after links (Close conn))
    doors-close is =
        opens-after (without conn links)
        (subst (λ o. Opens o (link_of (without conn links) conn)) (sym is) (subst (Opens None) (sym (link-gone conn links)) tt))
        (λ other apart. subst (Opens (decoder_of doors other)) (sym (link-left conn other links apart)) (opened other))

    -- more bytes came
    doors-bytes : (old new : Progress) (bytes : List ℕ) → decoder_of doors conn ≡ Some old → now ≡ Some new
        → HasFed new (received_of (link_of links conn) ++ bytes) (frames_in (received_of (link_of links conn) ++ bytes))
        → Open later (links_after links (Bytes conn bytes))
    doors-bytes old new bytes was is feeds =
        opens-after (map (with_bytes conn bytes) links)
        (subst (λ o. Opens o (link_of (map (with_bytes conn bytes) links) conn)) (sym is) (subst (Opens (Some new)) (sym (link-fed conn conn bytes links))
        (fed (link_of links conn) refl (subst (λ o. Opens o (link_of links conn)) was (opened conn)) feeds)))
        (λ other apart. subst (Opens (decoder_of doors other)) (sym (link-fed conn other bytes links)) (still other apart (decoder_of doors other) (link_of links other) refl (opened other)))
      where
        fed : (o : Option Link) → link_of links conn ≡ o → Opens (Some old) o → HasFed new (received_of o ++ bytes) (frames_in (received_of o ++ bytes)) → Opens (Some new) (option_map (with_bytes conn bytes) o)
        fed None e opens feeds = opens
        fed (Some link) e opens feeds =
            subst (λ (l : Link). HasFed new l.received (frames_in l.received)) (sym (cond-true (is_of conn link) (record link { received = link.received ++ bytes }) link (is-of-found links conn link e))) feeds

        still : (other : ConnId) → nat_eq conn.0 other.0 ≡ false → (d : Option Progress) (o : Option Link) → link_of links other ≡ o → Opens d o → Opens d (option_map (with_bytes conn bytes) o)
        still other apart d None e opens = opens
        still other apart d (Some link) e opens =
            subst (λ (l : Link). Opens d (Some l))
            (sym (cond-false (is_of conn link) (record link { received = link.received ++ bytes }) link (apart-of conn other link (is-of-found links other link e) apart))) opens

    -- where its decoder stands after a feed is a door of the link with those bytes
    pub bytes-opened : (decoder next : Progress) → decoder_of doors conn ≡ Some decoder → now ≡ Some next → (piece : List ℕ) (result : Result (List Frame) FrameError) → IsAnswered result
        → ((fed : List ℕ) (before : List Frame) → HasFed decoder fed before → Leaves next fed before piece result)
        → Open later (links_after links (Bytes conn piece))
    bytes-opened decoder next was is piece result some leaves =
        doors-bytes decoder next piece was is
        (fed-more next (received_of (link_of links conn)) piece result some
        (leaves (received_of (link_of links conn)) (frames_in (received_of (link_of links conn))) (fed-so-far decoder was)))
