-- The links with one number.
use Rattle.std.proofs.Common.{◌≡◌, ℕ, Bool, true, false, cond, not, List, [], ◌∷◌, ◌++◌, map, filter, Option, None, Some, refl, ap, sym, subst, ◌∙◌, ⊎_elim}
use Rattle.std.specs.Prelude.{nat_eq, option_map}
use Rattle.std.specs.List.{find}
use Rattle.std.proofs.lemmas.Bool.{cases_Bool, cond-true, cond-false, cond_both, eqb-true, eqb-false, ne_eqb}
use Rattle.std.proofs.lemmas.Option.{none-some, same_Some}
use Rattle.px_types.specs.declared.ids.ConnId.{ConnId}
use Rattle.px_session.specs.declared.event.Event.{Event}
use Rattle.px_session.specs.declared.event.Event.TheVariants.{Connect, Bytes, Close, Cut, Turn, Collect, Stop}
use Rattle.px_world.specs.World.{World, Link, is_of, link_of}
use Rattle.px_world.specs.declared.fault.WorldFault.TheVariants.{Live}
use Rattle.px_world.specs.Admission.{if_new, refusal_of}
use Rattle.px_world.specs.Event.{with_bytes, links_after}
use Rattle.px_world.specs.Running.{AreDistinct}

-- ---- one number

-- numbers that are equal name one link
pub same-link : (links : List Link) (a b : ConnId) → a.0 ≡ b.0 → link_of links a ≡ link_of links b
same-link links a b e = ap (λ n. find (λ link. nat_eq (Link.conn link).0 n) links) e

-- ---- a number that no link has

absent-rest : (conn : ConnId) (link : Link) (links : List Link) → link_of (link ∷ links) conn ≡ None → (is_of conn link ≡ false) × (link_of links conn ≡ None)
absent-rest conn link links none = go (is_of conn link) refl
  where
    go : (b : Bool) → is_of conn link ≡ b → (is_of conn link ≡ false) × (link_of links conn ≡ None)
    go true e = absurd (none-some link (sym none ∙ cond-true (is_of conn link) (Some link) (link_of links conn) e))
    go false e = (e, sym (cond-false (is_of conn link) (Some link) (link_of links conn) e) ∙ none)

-- ---- numbers stay distinct

-- more bytes leave a link its number
consistent-number : (conn other : ConnId) (bytes : List ℕ) (link : Link) → is_of other (with_bytes conn bytes link) ≡ is_of other link
consistent-number conn other bytes link =
    cond_both (is_of conn link) (record link { received = link.received ++ bytes }) link (λ (x : Link). is_of other x ≡ is_of other link) (λ e. refl) (λ e. refl)

link-bytes : (conn other : ConnId) (bytes : List ℕ) (links : List Link) → link_of links other ≡ None → link_of (map (with_bytes conn bytes) links) other ≡ None
link-bytes conn other bytes [] none = refl
link-bytes conn other bytes (link ∷ links) none =
    let rest = absent-rest other link links none in
    cond-false (is_of other (with_bytes conn bytes link)) (Some (with_bytes conn bytes link)) (find (is_of other) (map (with_bytes conn bytes) links)) (consistent-number conn other bytes link ∙ rest.0)
    ∙ link-bytes conn other bytes links rest.1

link-close : (conn other : ConnId) (links : List Link) → link_of links other ≡ None → link_of (filter (λ link. not (is_of conn link)) links) other ≡ None
link-close conn other [] none = refl
link-close conn other (link ∷ links) none =
    let rest = absent-rest other link links none in
    let behind : link_of (filter (λ x. not (is_of conn x)) links) other ≡ None = link-close conn other links rest.1 in
    cond_both (not (is_of conn link)) (link ∷ filter (λ x. not (is_of conn x)) links) (filter (λ x. not (is_of conn x)) links) (λ (l : List Link). link_of l other ≡ None)
    (λ consistent. cond-false (is_of other link) (Some link) (find (is_of other) (filter (λ x. not (is_of conn x)) links)) rest.0 ∙ behind)
    (λ gone. behind)

link-connect : (conn other : ConnId) (links : List Link) → nat_eq conn.0 other.0 ≡ false → link_of links other ≡ None → link_of (links ++ record { conn = conn; received = [] } ∷ []) other ≡ None
link-connect conn other [] apart none = cond-false (nat_eq conn.0 other.0) (Some (record { conn = conn; received = [] })) None apart
link-connect conn other (link ∷ links) apart none =
    let rest = absent-rest other link links none in
    cond-false (is_of other link) (Some link) (find (is_of other) (links ++ record { conn = conn; received = [] } ∷ [])) rest.0
    ∙ link-connect conn other links apart rest.1

distinct-connect : (conn : ConnId) (links : List Link) → link_of links conn ≡ None → AreDistinct links → AreDistinct (links ++ record { conn = conn; received = [] } ∷ [])
distinct-connect conn [] none distinct = (refl, tt)
distinct-connect conn (link ∷ links) none distinct =
    let rest = absent-rest conn link links none in
    let apart : nat_eq conn.0 link.conn.0 ≡ false = ne_eqb conn.0 link.conn.0 (λ e. eqb-false link.conn.0 conn.0 rest.0 (sym e)) in
    (link-connect conn link.conn links apart distinct.0, distinct-connect conn links rest.1 distinct.1)

distinct-bytes : (conn : ConnId) (bytes : List ℕ) (links : List Link) → AreDistinct links → AreDistinct (map (with_bytes conn bytes) links)
distinct-bytes conn bytes [] distinct = tt
distinct-bytes conn bytes (link ∷ links) distinct =
    let number : (with_bytes conn bytes link).conn ≡ link.conn =
    cond_both (is_of conn link) (record link { received = link.received ++ bytes }) link (λ (x : Link). x.conn ≡ link.conn) (λ e. refl) (λ e. refl) in (
      ap (λ c. link_of (map (with_bytes conn bytes) links) c) number ∙ link-bytes conn link.conn bytes links distinct.0,
      distinct-bytes conn bytes links distinct.1,
    )

distinct-close : (conn : ConnId) (links : List Link) → AreDistinct links → AreDistinct (filter (λ link. not (is_of conn link)) links)
distinct-close conn [] distinct = tt
distinct-close conn (link ∷ links) distinct =
    cond_both (not (is_of conn link)) (link ∷ filter (λ x. not (is_of conn x)) links) (filter (λ x. not (is_of conn x)) links) AreDistinct
    (λ consistent. (link-close conn link.conn links distinct.0, distinct-close conn links distinct.1))
    (λ gone. distinct-close conn links distinct.1)

-- a Connect that is admitted has a number that no link has
new-number : (o : Option Link) → if_new o ≡ None → o ≡ None
new-number None e = refl
new-number (Some link) e = absurd (none-some Live (sym e))

-- so numbers stay distinct
pub distinct-after : (w : World) (e : Event) → refusal_of w e ≡ None → AreDistinct w.links → AreDistinct (links_after w.links e)
distinct-after w (Connect conn) admitted distinct = distinct-connect conn w.links (new-number (link_of w.links conn) admitted) distinct
distinct-after w (Bytes conn bytes) admitted distinct = distinct-bytes conn bytes w.links distinct
distinct-after w (Close conn) admitted distinct = distinct-close conn w.links distinct
distinct-after w (Cut conn) admitted distinct = distinct
distinct-after w (Turn sink frames n) admitted distinct = distinct
distinct-after w (Collect sink n) admitted distinct = distinct
distinct-after w (Stop sink) admitted distinct = distinct

-- ---- the link that has a number, after an event

-- the links that a Close leaves
abbrev pub without : ConnId → List Link → List Link
without conn links = filter (λ link. not (is_of conn link)) links

-- the link that has a number
pub is-of-found : (links : List Link) (conn : ConnId) (found : Link) → link_of links conn ≡ Some found → is_of conn found ≡ true
is-of-found [] conn found e = absurd (none-some found e)
is-of-found (link ∷ links) conn found e =
    ⊎_elim
    (λ (here : is_of conn link ≡ true).
    subst (λ l. is_of conn l ≡ true) (same_Some link found (sym (cond-true (is_of conn link) (Some link) (link_of links conn) here) ∙ e)) here)
    (λ (past : is_of conn link ≡ false).
    is-of-found links conn found (sym (cond-false (is_of conn link) (Some link) (link_of links conn) past) ∙ e))
    (cases_Bool (is_of conn link))

-- a link's number isn't another
pub apart-of : (conn other : ConnId) (link : Link) → is_of other link ≡ true → nat_eq conn.0 other.0 ≡ false → is_of conn link ≡ false
apart-of conn other link is apart =
    ⊎_elim
    (λ (same : is_of conn link ≡ true).
    absurd (subst (λ (b : Bool). cond b (Unit {0}) ⊥) (sym (ap (λ n. nat_eq n other.0) (sym (eqb-true link.conn.0 conn.0 same)) ∙ is) ∙ apart) tt))
    (λ (past : is_of conn link ≡ false). past)
    (cases_Bool (is_of conn link))

-- after a Connect of a new number
pub link-more : (links : List Link) (new : Link) (other : ConnId) → link_of links other ≡ None → link_of (links ++ new ∷ []) other ≡ cond (is_of other new) (Some new) None
link-more [] new other none = refl
link-more (link ∷ links) new other none =
    ⊎_elim
    (λ (here : is_of other link ≡ true). absurd (none-some link (sym none ∙ cond-true (is_of other link) (Some link) (link_of links other) here)))
    (λ (past : is_of other link ≡ false).
    cond-false (is_of other link) (Some link) (link_of (links ++ new ∷ []) other) past
    ∙ link-more links new other (sym (cond-false (is_of other link) (Some link) (link_of links other) past) ∙ none))
    (cases_Bool (is_of other link))

pub link-still : (links : List Link) (new : Link) (other : ConnId) → is_of other new ≡ false → link_of (links ++ new ∷ []) other ≡ link_of links other
link-still [] new other apart = cond-false (is_of other new) (Some new) None apart
link-still (link ∷ links) new other apart = ap (λ o. cond (is_of other link) (Some link) o) (link-still links new other apart)

-- after bytes
pub link-fed : (conn other : ConnId) (bytes : List ℕ) (links : List Link) → link_of (map (with_bytes conn bytes) links) other ≡ option_map (with_bytes conn bytes) (link_of links other)
link-fed conn other bytes [] = refl
link-fed conn other bytes (link ∷ links) =
    ap (λ b. cond b (Some (with_bytes conn bytes link)) (link_of (map (with_bytes conn bytes) links) other)) (consistent-number conn other bytes link)
    ∙ ap (λ o. cond (is_of other link) (Some (with_bytes conn bytes link)) o) (link-fed conn other bytes links)
    ∙ sym (mapped (is_of other link))
  where
    mapped : (b : Bool) → option_map (with_bytes conn bytes) (cond b (Some link) (link_of links other)) ≡ cond b (Some (with_bytes conn bytes link)) (option_map (with_bytes conn bytes) (link_of links other))
    mapped true = refl
    mapped false = refl

-- after a Close
pub link-gone : (conn : ConnId) (links : List Link) → link_of (without conn links) conn ≡ None
link-gone conn [] = refl
link-gone conn (link ∷ links) = go (is_of conn link) refl (link-gone conn links)
  where
    go : (b : Bool) → is_of conn link ≡ b → link_of (without conn links) conn ≡ None → link_of (cond (not b) (link ∷ without conn links) (without conn links)) conn ≡ None
    go true e rest = rest
    go false e rest = cond-false (is_of conn link) (Some link) (link_of (without conn links) conn) e ∙ rest

pub link-left : (conn other : ConnId) (links : List Link) → nat_eq conn.0 other.0 ≡ false → link_of (without conn links) other ≡ link_of links other
link-left conn other [] apart = refl
link-left conn other (link ∷ links) apart = go (is_of conn link) refl (link-left conn other links apart)
  where
    unlike : is_of conn link ≡ true → is_of other link ≡ false
    unlike e = ap (λ n. nat_eq n other.0) (eqb-true link.conn.0 conn.0 e) ∙ apart

    go : (b : Bool) → is_of conn link ≡ b → link_of (without conn links) other ≡ link_of links other → link_of (cond (not b) (link ∷ without conn links) (without conn links)) other ≡ link_of (link ∷ links) other
    go true e rest = rest ∙ sym (cond-false (is_of other link) (Some link) (link_of links other) (unlike e))
    go false e rest = ap (λ o. cond (is_of other link) (Some link) o) rest
