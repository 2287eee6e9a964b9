-- The calls of libraries that ran with a thread each come from one order, whose moves make the log.
use Rattle.trio_runner.proofs.Words.{◌++◌, ◌∙◌, ◌∷◌, ◌≡◌, ◌⊎◌, AreEntries, Ask, Bool, Call, Creds, Ends, Entry, Goes, Going, Happening, Happens, In, In-cases, In-filter, In-map, IsSeenIn, Leaves, LibNo, LibRan, List, ModeSet, NotModeSet, NotSettled, OneOrder, Origin, Place, ReplaysFrom, ScriptLib, SetMode, Settle, Settled, Shown, State, Told, [], all_parts, answer_of, ap, append-nil, arith, arrives, backs_of, calls_by, cases_lt, creds_in, entries_told, eq-eqb, event_of, filter, filter-append, inl, inr, length, line_turns, made_by, maker, map, map-In, origin_in, parts_of, refl, start, started, subst, sym, untold}
use Rattle.std.specs.Prelude.{◌==◌}
use Rattle.trio_lists.proofs.Members.{flat_map-In}
use Rattle.trio_nodes.specs.declared.answers.ModeFault.TheVariants.{Busy}
use Rattle.trio_state.specs.State.{IsLibrary}
use Rattle.trio_laws.specs.history.Replays.{Replays}
use Rattle.trio_order.specs.Order.{Along, back_call, entries_in, moves_in, moves_of}
use Rattle.trio_order.proofs.Growing.{calls_end, calls_grow}
use Rattle.trio_order.proofs.Orders.{threads_are_order}
use Rattle.trio_runner.specs.RunLaws.{OrderIsLogged, RanIsOrder}
use Rattle.trio_runner.proofs.EndFree.{script_library}
use Rattle.trio_runner.proofs.Keeping.{course_keeps}
use Rattle.trio_runner.proofs.Logs.{entries_append, move_entries}

-- ---- a library's calls along what its seat has seen

-- what a log leaves is what it replays to
pub replays_left : (first : Origin) (log : List Entry) (s : State) → Leaves first log s → Replays first.image first.creds log s
replays_left first log s left = subst (λ (creds : List Creds). Replays first.image creds log s) left.creds left.all.replays

-- the library's calls lie along what its seat has seen
record Lies (first : Origin) (lib : LibNo) (g : Going) : Type 0 where
  lib_is : g.seat.lib ≡ lib
  first_is : g.seat.first ≡ first
  along : Along (started first) lib [] g.seat.seen g.calls

-- a call more
goes_along : (first : Origin) (lib : LibNo) (g : Going) (ask : Ask) (told : Told) (g' : Going)
    → Lies first lib g → Goes g ask told g' → Lies first lib g'
goes_along first lib g ask told g' lies goes =
    let t = goes.turn in
    let c : Call = record { ask = ask; told = told } in
    let own : List Entry = entries_told t.before lib ask told in
    let found : ReplaysFrom (started first) (g.seat.seen ++ t.others) t.before =
    replays_left first (g.seat.seen ++ t.others) t.before
    (subst (λ (f : Origin). Leaves f (g.seat.seen ++ t.others) t.before) lies.first_is t.found) in
    let seen : g'.seat.seen ≡ (g.seat.seen ++ t.others) ++ own =
    t.seen ∙ ap (λ (l : LibNo). (g.seat.seen ++ t.others) ++ entries_told t.before l ask told) lies.lib_is in
    let first_is : g'.seat.first ≡ first = t.first ∙ lies.first_is in
    let left : ReplaysFrom (started first) ((g.seat.seen ++ t.others) ++ own) t.after =
    replays_left first ((g.seat.seen ++ t.others) ++ own) t.after
    (subst (λ (log : List Entry). Leaves first log t.after) seen (subst (λ (f : Origin). Leaves f g'.seat.seen t.after) first_is t.left)) in
    let none : made_by lib.0 t.others ≡ [] = subst (λ (l : LibNo). made_by l.0 t.others ≡ []) lies.lib_is t.not_its_own in
    let did : Happens t.before lib ask told t.after = subst (λ (l : LibNo). Happens t.before l ask told t.after) lies.lib_is t.did in
    let grown : Along (started first) lib [] ((g.seat.seen ++ t.others) ++ own) (g.calls ++ c ∷ []) =
    calls_grow (started first) lib g.seat.seen t.others g.calls c t.before t.after lies.along none found did left in
    record {
      lib_is = t.lib ∙ lies.lib_is;
      first_is = first_is;
      along = subst (λ (calls : List Call). Along (started first) lib [] g'.seat.seen calls) (sym goes.calls_are)
          (subst (λ (log : List Entry). Along (started first) lib [] log (g.calls ++ c ∷ [])) (sym seen) grown);
    }

-- all of its script
ran_along : (first : Origin) (lib : LibNo) (l : ScriptLib) (last : Place)
    → LibRan first lib l last → Along (started first) lib [] last.going.seat.seen last.going.calls
ran_along first lib l last ran =
    let place : Place = record { going = arrives first lib; share = ran.share; told = untold } in
    let at_first : Lies first lib (arrives first lib) = record { lib_is = refl; first_is = refl; along = refl } in
    (course_keeps (Lies first lib) (goes_along first lib) place (line_turns l.lines ++ Ends ∷ []) last at_first ran.goes).along

-- what is empty behind a list that stays
none_behind : {X : Type 0} (xs ys : List X) → xs ++ ys ≡ xs → ys ≡ []
none_behind [] ys same = same
none_behind (x ∷ xs) ys same = none_behind xs ys (cc same)

-- so they lie along the log of all
along_all : (first : State) (lib : LibNo) (seen log : List Entry) (calls : List Call)
    → IsSeenIn log lib seen → Along first lib [] seen calls → Along first lib [] log calls
along_all first lib seen log calls is along =
    let later : List Entry = is.begins.0 in
    let all : seen ++ later ≡ log = is.begins.1 in
    let parts : made_by lib.0 (seen ++ later) ≡ made_by lib.0 seen ++ made_by lib.0 later =
    filter-append (λ (e : Entry). maker e == lib.0) seen later in
    let same : made_by lib.0 seen ++ made_by lib.0 later ≡ made_by lib.0 seen = sym parts ∙ ap (made_by lib.0) all ∙ is.own in
    subst (λ (l : List Entry). Along first lib [] l calls) all
    (calls_end first lib seen later calls along (none_behind (made_by lib.0 seen) (made_by lib.0 later) same))

pub ran_is_order : RanIsOrder
ran_is_order image libs tolds s' log fit verifies whole ran =
    let first : Origin = origin_in image libs in
    let calls : LibNo → List Call = λ lib. (ran.last lib).going.calls in
    let along : (lib : LibNo) → IsLibrary (creds_in libs) lib.0 → Along (started first) lib [] log (calls lib) = λ lib is.
    (let l = script_library image libs lib is in
    along_all (started first) lib (ran.last lib).going.seat.seen log (calls lib) (ran.seen lib l.0 l.1)
    (ran_along first lib l.0 (ran.last lib) (ran.ran lib l.0 l.1))) in
    threads_are_order image (creds_in libs) calls log s' fit verifies whole (replays_left first log s' ran.left) along

-- ---- the log of such an order

-- one call that gives nothing back
one_simple : (c : Call) → backs_of c.ask c.told ≡ [] → (d : Call) → In d (c ∷ []) → backs_of d.ask d.told ≡ []
one_simple c none d i = elim i [ inl same ↦ ap (λ (x : Call). backs_of x.ask x.told) same ∙ none | inr nothing ↦ absurd nothing ]

-- the same behind read leases that are given back as calls of their own
behind_simple : (back : List Shown) (c : Call) → backs_of c.ask c.told ≡ [] → (d : Call) → In d (map back_call back ++ c ∷ []) → backs_of d.ask d.told ≡ []
behind_simple back c none d i =
    elim (In-cases d (map back_call back) (c ∷ []) i) [
      | inl j ↦ (let lease = map-In back_call d back j in ap (λ (x : Call). backs_of x.ask x.told) lease.2)
      | inr j ↦ one_simple c none d j
    ]

-- a call in its parts: none of them gives anything back
parts_simple : (ask : Ask) (told : Told) (d : Call) → In d (parts_of ask told) → backs_of d.ask d.told ≡ []
parts_simple (Settle parcel back calls) Settled d i = behind_simple back (record { ask = Settle parcel [] calls; told = Settled }) refl d i
parts_simple (SetMode ino mode back call) ModeSet d i = behind_simple back (record { ask = SetMode ino mode [] call; told = ModeSet }) refl d i
parts_simple ask told d i = one_simple (record { ask = ask; told = told }) refl d i

calls_simple : (calls : List Call) (d : Call) → In d (all_parts calls) → backs_of d.ask d.told ≡ []
calls_simple calls d i =
    let part = flat_map-In (λ (c : Call). parts_of c.ask c.told) d calls i in
    parts_simple part.0.ask part.0.told d part.2

-- so no call of such an order does
order_simple : (first : State) (courses : LibNo → List Call) (log : List Entry) (last : State) (one : OneOrder first courses log last) (h : Happening) → In h one.order → backs_of h.call.ask h.call.told ≡ []
order_simple first courses log last one h i = elim (library first.creds h.lib) [
  | inl is ↦ calls_simple (courses h.lib) h.call (subst (In h.call) (one.own h.lib is) among)
  | inr out ↦ absurd (subst (In h.call) (one.no_other h.lib out) among)
]
  where
    among : In h.call (calls_by h.lib one.order)
    among =
        let mine : Happening → Bool = λ (g : Happening). g.lib.0 == h.lib.0 in
        In-map (λ (g : Happening). g.call) h (filter mine one.order) (In-filter mine h one.order i (eq-eqb h.lib.0 h.lib.0 refl))

    library : (creds : List Creds) (lib : LibNo) → IsLibrary creds lib.0 ⊎ (IsLibrary creds lib.0 → ⊥)
    library creds lib =
        elim (cases_lt lib.0 1) [
          | inl low ↦ inr (λ is. (let one = is.0 in omega (arith, low, one)))
          | inr up ↦ elim (cases_lt (length creds) lib.0) [
            | inl high ↦ inr (λ is. (let most = is.1 in omega (arith, high, most)))
            | inr small ↦ inl (up, small)
          ]
        ]

-- The entries of a call are those of its move. One that is no move makes none.
call_entries : (lib : LibNo) (s : State) (ask : Ask) (told : Told) (s' : State) → backs_of ask told ≡ [] → AreEntries (moves_of lib s ask told s') (entries_told s lib ask told)
call_entries lib s (Settle parcel back calls) NotSettled s' none = refl
call_entries lib s (SetMode ino mode back call) (NotModeSet (Busy holder)) s' none = refl
call_entries lib s ask told s' none = (
  entries_told s lib ask told,
  [],
  move_entries (record { before = s; event = event_of lib ask; answer = answer_of told; after = s' }) lib ask told none refl refl,
  refl,
  sym (append-nil (entries_told s lib ask told)),
)

order_entries : (order : List Happening) → ((h : Happening) → In h order → backs_of h.call.ask h.call.told ≡ []) → AreEntries (moves_in order) (entries_in order)
order_entries [] simple = refl
order_entries (h ∷ order) simple =
    entries_append (moves_of h.lib h.before h.call.ask h.call.told h.after) (moves_in order)
    (entries_told h.before h.lib h.call.ask h.call.told) (entries_in order)
    (call_entries h.lib h.before h.call.ask h.call.told h.after (simple h (inl refl))) (order_entries order (λ g i. simple g (inr i)))

pub order_is_logged : OrderIsLogged
order_is_logged image libs tolds s' log ran one =
    subst (AreEntries (moves_in one.order)) one.entries
    (order_entries one.order (order_simple (start image (creds_in libs)) (λ lib. (ran.last lib).going.calls) log s' one))
