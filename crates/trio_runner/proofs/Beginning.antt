-- A library at its seat, from the start of its script to its end.
use Rattle.trio_runner.proofs.Words.{◌++◌, ◌+◌, ◌-◌, ◌<◌, ◌∙◌, ◌∷◌, ◌≡◌, ◌≤◌, Arrives, BeginsWith, CourseGoes, Creds, DeskSeen, Ends, Entry, Heard, Held, HoldsAll, IsLibraryOf, LibSeat, Lines, List, MayGoOn, Origin, Place, RanAll, ScriptLib, Seated, Share, Shared, Some, WentThrough, [], ap, arith, arrives, begun, creds_in, creds_listed, desk, desk_left, desk_of, first, get_or, length, length-map, library, library_of, line_turns, map-append, place_at, refl, seated, seen, slice_get-get_or, started, subst, suc, sym, take, untold, ℕ}
use Rattle.std.proofs.Math.Seq.{take-suc}
use Rattle.trio_turn.specs.Marks.{Mark}
use Rattle.trio_shared.specs.Seats.{origin}
use Rattle.trio_runner.proofs.EndFree.{begins_all, creds_at}
use Rattle.trio_runner.proofs.Seats.{begun_goes}

-- the credentials of one library more
pub creds_more : (libs : List ScriptLib) (i : ℕ) (lib : ScriptLib) (before after : List Creds) → i < length libs → get_or libs i lib ≡ lib
    → before ≡ creds_in (take i libs) → after ≡ before ++ lib.creds ∷ [] → after ≡ creds_in (take (i + 1) libs)
creds_more libs i lib before after lt is first more =
    let up : suc i ≡ i + 1 = omega arith in
    more ∙ ap (λ cs. cs ++ lib.creds ∷ []) first
    ∙ sym (map-append (λ (l : ScriptLib). l.creds) (take i libs) (lib ∷ []))
    ∙ ap (λ (l : ScriptLib). creds_in (take i libs ++ l ∷ [])) (sym is)
    ∙ ap creds_in (sym (take-suc libs i lib lt))
    ∙ ap (λ n. creds_in (take n libs)) up

-- a library may go on from what it begins with
pub begins_may : (seat : LibSeat Held) (creds : Creds) (lines : Lines) (share : Share) → seen seat ≡ [] → (desk seat).creds ≡ creds → BeginsWith (library_of seat) creds lines share → MayGoOn (desk seat) share
begins_may seat creds lines share none same begins =
    let began : desk seat ≡ desk_of (started (first seat)) (library_of seat) = ap (λ (log : List Entry). desk_left (first seat) log (library_of seat)) none in
    let all = subst (λ (d : DeskSeen). HoldsAll d share) (sym began) (begins_all (first seat).image (first seat).creds (library_of seat) creds lines share (sym same) begins) in
    (begun_goes (desk seat) (library_of seat) creds lines share begins all, all)

module _ (shared : Shared) (libs : List ScriptLib) (seat : LibSeat Held) (a : Arrives shared libs seat) where
  -- it is the seat of a library of the script
  pub seat_within : (1 ≤ library seat) × (library seat ≤ length libs)
  seat_within =
      let high : library seat ≤ length (first seat).creds = subst (λ (o : Origin). library seat ≤ length o.creds) (sym a.sits.is_seat.first) a.sits.is_seat.library.1 in
      let many : length (first seat).creds ≡ length libs = ap length a.creds ∙ length-map libs (λ (l : ScriptLib). l.creds) in
      (a.sits.is_seat.library.0, subst (λ n. library seat ≤ n) many high)

  -- there are no more libraries at its controller than in the script
  pub seat_few : length libs ≤ 16 → length (origin shared).creds ≤ 16
  seat_few few =
      let there : length (origin shared).creds ≡ length (first seat).creds = ap (λ (o : Origin). length o.creds) (sym a.sits.is_seat.first) in
      let many : length (first seat).creds ≡ length libs = ap length a.creds ∙ length-map libs (λ (l : ScriptLib). l.creds) in
      omega (arith, few, there, many)

  pub seat_at : library seat - 1 < length libs
  seat_at = (let w = seat_within in omega (arith, w.0, w.1))

  pub seat_script : (l : ScriptLib) → l ≡ get_or libs (library seat - 1) l → IsLibraryOf libs (library_of seat) l
  seat_script l is = (seat_within.0, slice_get-get_or libs (library seat - 1) l seat_at ∙ ap Some (sym is))

  pub seat_creds : (l : ScriptLib) → l ≡ get_or libs (library seat - 1) l → (desk seat).creds ≡ l.creds
  seat_creds l is =
      ap (λ (cs : List Creds). creds_listed cs (library seat)) a.creds
      ∙ sym (creds_at libs (library seat) l seat_within.0 (seat_script l is).1)

  fresh : seated seat ≡ (arrives (first seat) (library_of seat)).seat
  fresh =
      ap (λ (log : List Entry). record { lib = library_of seat; first = first seat; seen = log; begun = begun seat }) a.none
      ∙ ap (λ (m : Mark). record { lib = library_of seat; first = first seat; seen = []; begun = m }) a.sits.is_idle

  pub ran_all : (l : ScriptLib) (seat' : LibSeat Held) (told : Heard) → WentThrough shared l.creds l.lines seat untold seat' told → RanAll shared l seat seat' told
  ran_all l seat' told w =
      let gone = w.went.goes [] in
      let last : Place = place_at seat' gone.0 w.share' told in
      record {
        last = last;
        ran = record {
          share = w.share;
          begins = w.begins;
          goes = subst (λ (x : Seated). CourseGoes (record { going = record { seat = x; calls = [] }; share = w.share; told = untold }) (line_turns l.lines ++ Ends ∷ []) last) fresh gone.1;
        };
        told_is = refl;
        seat_is = refl;
        sits = w.went.sits;
        library = w.went.library;
      }
