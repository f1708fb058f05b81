-- The fields of CREATE_RECORD_STREAM, part by part.
use Rattle.std.proofs.Common.{◌≡◌, ℕ, List, [], ◌∷◌, ◌++◌, Result, Ok, Err, refl, sym, ap, ◌∙◌}
use Rattle.px_tag.specs.declared.fault.TagFault.{TagFault}
use Rattle.px_tag.specs.Place.{Place, ◌>>=◌}
use Rattle.px_cmd.specs.declared.fault.CmdFault.{CmdFault}
use Rattle.px_cmd.specs.declared.fault.CmdFault.TheVariants.{Protocol, Unknown, Unsupported, NoMemory}
use Rattle.px_cmd.specs.Field.{Kind, Field, field_at, fields_at}
use Rattle.px_cmd.specs.Packet.{Fails}
use Rattle.px_monitor.specs.Command.{shape_kinds, buffering_kinds, matching_kinds, manner_kinds, later_kinds, create_kinds}

abbrev behind : List Field → Result (List Field × Place) TagFault → Result (List Field × Place) TagFault
behind front read = read >>= λ others. Ok (front ++ others.0, others.1)

-- a field before others
abbrev cons : Field → Result (List Field × Place) TagFault → Result (List Field × Place) TagFault
cons first read = read >>= λ rest. Ok (first ∷ rest.0, rest.1)

-- what was read, and then fields of these kinds
abbrev and_then : List Kind → Result (List Field × Place) TagFault → Result (List Field × Place) TagFault
and_then others read = read >>= λ a. behind a.0 (fields_at others a.1)

-- a field, and then fields of these kinds
abbrev first_then : List Kind → Result (Field × Place) TagFault → Result (List Field × Place) TagFault
first_then kinds read = read >>= λ first. cons first.0 (fields_at kinds first.1)

behind_more : (first : Field) (front : List Field) (read : Result (List Field × Place) TagFault) → cons first (behind front read) ≡ behind (first ∷ front) read
behind_more first front (Ok others) = refl
behind_more first front (Err fault) = refl

behind_none : (read : Result (List Field × Place) TagFault) → behind [] read ≡ read
behind_none (Ok others) = refl
behind_none (Err fault) = refl

cons_behind : (others : List Kind) (first : Field) (read : Result (List Field × Place) TagFault) → cons first (and_then others read) ≡ and_then others (cons first read)
cons_behind others first (Ok a) = behind_more first a.0 (fields_at others a.1)
cons_behind others first (Err fault) = refl

first_append : (kinds others : List Kind) (read : Result (Field × Place) TagFault) → ((mid : Place) → fields_at (kinds ++ others) mid ≡ and_then others (fields_at kinds mid)) → first_then (kinds ++ others) read ≡ and_then others (first_then kinds read)
first_append kinds others (Ok first) rest = ap (cons first.0) (rest first.1) ∙ cons_behind others first.0 (fields_at kinds first.1)
first_append kinds others (Err fault) rest = refl

-- fields of these kinds and then of others
fields_append : (kinds others : List Kind) (place : Place) → fields_at (kinds ++ others) place ≡ and_then others (fields_at kinds place)
fields_append [] others place = sym (behind_none (fields_at others place))
fields_append (kind ∷ kinds) others place = first_append kinds others (field_at kind place) (λ mid. fields_append kinds others mid)

fields_then : (kinds others : List Kind) (place : Place) (front : List Field) (mid : Place) → fields_at kinds place ≡ Ok (front, mid) → fields_at (kinds ++ others) place ≡ behind front (fields_at others mid)
fields_then kinds others place front mid e = fields_append kinds others place ∙ ap (and_then others) e

-- a fault in the first fields
fails_first : (kinds others : List Kind) (place : Place) (fault : CmdFault) → Fails fault (fields_at kinds place) → Fails fault (fields_at (kinds ++ others) place)
fails_first kinds others place (Protocol fault) e = fields_append kinds others place ∙ ap (and_then others) e
fails_first kinds others place (Unknown command) e = e
fails_first kinds others place (Unsupported command) e = e
fails_first kinds others place NoMemory e = tt

-- a fault after them
fails_then : (kinds others : List Kind) (place : Place) (front : List Field) (mid : Place) (fault : CmdFault) → fields_at kinds place ≡ Ok (front, mid) → Fails fault (fields_at others mid) → Fails fault (fields_at (kinds ++ others) place)
fails_then kinds others place front mid (Protocol fault) e f = fields_then kinds others place front mid e ∙ ap (behind front) f
fails_then kinds others place front mid (Unknown command) e f = f
fails_then kinds others place front mid (Unsupported command) e f = f
fails_then kinds others place front mid NoMemory e f = tt

module _ (version : ℕ) (place : Place) where
  abbrev later : List Kind
  later = later_kinds version

  abbrev from_manner : List Kind
  from_manner = manner_kinds ++ later

  abbrev from_matching : List Kind
  from_matching = matching_kinds ++ from_manner

  abbrev from_buffering : List Kind
  from_buffering = buffering_kinds ++ from_matching

  abbrev whole : Result (List Field × Place) TagFault
  whole = fields_at (create_kinds version) place

  pub create_fails_1 : (fault : CmdFault) → Fails fault (fields_at shape_kinds place) → Fails fault whole
  create_fails_1 fault e = fails_first shape_kinds from_buffering place fault e

  module _ (shape : List Field) (a : Place) (one : fields_at shape_kinds place ≡ Ok (shape, a)) where
    second : (fault : CmdFault) → Fails fault (fields_at from_buffering a) → Fails fault whole
    second fault e = fails_then shape_kinds from_buffering place shape a fault one e

    pub create_fails_2 : (fault : CmdFault) → Fails fault (fields_at buffering_kinds a) → Fails fault whole
    create_fails_2 fault e = second fault (fails_first buffering_kinds from_matching a fault e)

    module _ (buffering : List Field) (b : Place) (two : fields_at buffering_kinds a ≡ Ok (buffering, b)) where
      third : (fault : CmdFault) → Fails fault (fields_at from_matching b) → Fails fault whole
      third fault e = second fault (fails_then buffering_kinds from_matching a buffering b fault two e)

      pub create_fails_3 : (fault : CmdFault) → Fails fault (fields_at matching_kinds b) → Fails fault whole
      create_fails_3 fault e = third fault (fails_first matching_kinds from_manner b fault e)

      module _ (matching : List Field) (c : Place) (three : fields_at matching_kinds b ≡ Ok (matching, c)) where
        fourth : (fault : CmdFault) → Fails fault (fields_at from_manner c) → Fails fault whole
        fourth fault e = third fault (fails_then matching_kinds from_manner b matching c fault three e)

        pub create_fails_4 : (fault : CmdFault) → Fails fault (fields_at manner_kinds c) → Fails fault whole
        create_fails_4 fault e = fourth fault (fails_first manner_kinds later c fault e)

        module _ (manner : List Field) (d : Place) (four : fields_at manner_kinds c ≡ Ok (manner, d)) where
          pub create_fails_5 : (fault : CmdFault) → Fails fault (fields_at later d) → Fails fault whole
          create_fails_5 fault e = fourth fault (fails_then manner_kinds later c manner d fault four e)

          pub create_reads : (last : List Field) (e : Place) → fields_at later d ≡ Ok (last, e) → whole ≡ Ok (shape ++ (buffering ++ (matching ++ (manner ++ last))), e)
          create_reads last e five =
              fields_then shape_kinds from_buffering place shape a one
              ∙ ap (behind shape) (fields_then buffering_kinds from_matching a buffering b two
              ∙ ap (behind buffering) (fields_then matching_kinds from_manner b matching c three
              ∙ ap (behind matching) (fields_then manner_kinds later c manner d four ∙ ap (behind manner) five)))
