-- At a script's end nothing is lent or out.
use Rattle.trio_runner.proofs.Words.{◌&&◌, ◌+◌, ◌-◌, ◌<◌, ◌∙◌, ◌∷◌, ◌≡◌, ◌≤◌, AreAsTold, AtStart, BeginsWith, Bool, Controller, Creds, DeskSeen, Err, GrantKind, Has, HasAll, Hold, HoldsAll, Honest, IfSome, Image, In, In-filter, In-map, IsFit, IsHeld, IsLibrary, IsLibraryOf, IsWhole, Kept, LentWhole, LibNo, LibOut, Lines, List, Move, None, NothingOut, Ok, OpenGrant, Option, OutAlike, Placed, Players, Plays, Raw, Read, Result, ScriptLib, Share, Some, State, TakesTurn, Verifies, Write, [], ap, arith, begins_to_call, both_ways, cond, creds_in, creds_listed, creds_of, desk_of, eq-eqb, eqb, eqb-true, false, false≢true, grants_of, inl, inr, is_hold, is_read, is_write, le-leb, leb, leb-true, length, length-map, map, no_lib_out, nothing, numbers_to, numbers_to-In, out_of, refl, share_of, slice_get, start, subst, suc, sym, told_to, true, turns_of, zero, ℕ}
use Rattle.std.specs.Prelude.{IfOk}
use Rattle.std.specs.Result.{result_ok}
use Rattle.std.proofs.lemmas.Bool.{and_from}
use Rattle.trio_tables.specs.Out.{lib_at, none_out}
use Rattle.trio_tables.proofs.OutLemmas.{lib_at-none_out}
use Rattle.trio_laws.proofs.Runs.{start_kept}
use Rattle.trio_ctl.specs.Open.{hold_of, shown_of}
use Rattle.trio_ctl.proofs.DeskOuts.{In-numbers_to}
use Rattle.trio_runner.specs.PlayLaws.{PlayedEndsFree}
use Rattle.trio_runner.proofs.Held.{end_none, held_after, held_stands, is_end, library_after, noted_of, others_seen, same_creds, same_library}
use Rattle.trio_runner.proofs.Orders.{Within, all_ended, ended, turns_within}

-- ---- the start

pub no_numbers : (count lib n : ℕ) → In n (numbers_to (none_out count) lib) → ⊥
no_numbers count lib n i =
    let was : lib_at (none_out count) n ≡ Some (record { 0 = lib }) = numbers_to-In (none_out count) lib n i in
    let wrong : None ≡ Some (record { 0 = lib }) = sym (lib_at-none_out count n) ∙ was in
    cc wrong

-- nothing is out to a library then
pub nothing_at_start : (image : Image) (creds : List Creds) (lib : LibNo) → OutAlike (out_of (start image creds) lib) no_lib_out
nothing_at_start image creds lib = record {
  writes = refl;
  reads = refl;
  holds = refl;
  pages = λ n. (λ i. no_numbers image.core.range.end lib.0 n i, λ i. absurd i);
  numbers = λ n. (λ i. no_numbers (image.core.inodes + 1) lib.0 n i, λ i. absurd i);
}

-- nor to one of a controller that was started
pub nothing_started : {E : Type 0} (r : Result Controller E) (image : Image) (creds : List Creds) (lib : LibNo) → IfOk r (λ ctl. ctl.state ≡ start image creds) → IfSome (result_ok r) (λ ctl. OutAlike (out_of ctl.state lib) no_lib_out)
nothing_started (Ok ctl) image creds lib same = subst (λ s. OutAlike (out_of s lib) no_lib_out) (sym same) (nothing_at_start image creds lib)
nothing_started (Err back) image creds lib same = tt

-- nothing is out at first
start_has_all : (image : Image) (creds : List Creds) (lib : LibNo) (has : Has) → HasAll (out_of (start image creds) lib) has
start_has_all image creds lib has = record {
  writes = λ w i. absurd i;
  reads = λ r i. absurd i;
  holds = λ h i. absurd i;
  pages = λ n i. absurd (no_numbers image.core.range.end lib.0 n i);
  numbers = λ n i. absurd (no_numbers (image.core.inodes + 1) lib.0 n i);
}

-- a library holds all when it begins
pub begins_all : (image : Image) (creds : List Creds) (lib : LibNo) (own : Creds) (lines : Lines) (share : Share) → own ≡ creds_of (start image creds) lib.0 → BeginsWith lib own lines share → HoldsAll (desk_of (start image creds) lib) share
begins_all image creds lib own (Raw lines) share same begins =
    subst (HoldsAll (desk_of (start image creds) lib)) (sym begins) (start_has_all image creds lib nothing)
begins_all image creds lib own (Honest lines) share same begins =
    subst (HoldsAll (desk_of (start image creds) lib)) (sym begins.1)
    (begins_to_call (desk_of (start image creds) lib) _ (record { lib = refl; creds = same; out = nothing_at_start image creds lib; empty = refl }))

creds_placed : (libs : List ScriptLib) (k : ℕ) (l : ScriptLib) → slice_get libs k ≡ Some l → l.creds ≡ creds_listed (creds_in libs) (suc k)
creds_placed [] k l e = absurd (cc e)
creds_placed (x ∷ libs) zero l e = (let same : x ≡ l = cc e in ap (λ (y : ScriptLib). y.creds) (sym same))
creds_placed (x ∷ libs) (suc k) l e = creds_placed libs k l e

-- the credentials of a script's library
pub creds_at : (libs : List ScriptLib) (lib : ℕ) (l : ScriptLib) → 1 ≤ lib → slice_get libs (lib - 1) ≡ Some l → l.creds ≡ creds_listed (creds_in libs) lib
creds_at libs zero l low e = absurd (omega (arith, low))
creds_at libs (suc k) l low e = (let same : suc k - 1 ≡ k = omega arith in creds_placed libs k l (ap (slice_get libs) (sym same) ∙ e))

-- a place within a list has its element
pub within_some : {X : Type 0} (xs : List X) (i : ℕ) → i < length xs → (x : X) × (slice_get xs i ≡ Some x)
within_some [] i lt = absurd (omega (arith, lt))
within_some (x ∷ xs) zero lt = (x, refl)
within_some (x ∷ xs) (suc i) lt = within_some xs i (omega (arith, lt))

-- each library of the controller is one of the script
pub script_library : (image : Image) (libs : List ScriptLib) (lib : LibNo) → IsLibrary lib (start image (creds_in libs)) → (l : ScriptLib) × IsLibraryOf libs lib l
script_library image libs lib is =
    let low : 1 ≤ lib.0 = is.0 in
    let many : length (map (λ (l : ScriptLib). l.creds) libs) ≡ length libs = length-map libs _ in
    let high : lib.0 ≤ length libs = subst (λ n. lib.0 ≤ n) many is.1 in
    let w = within_some libs (lib.0 - 1) (omega (arith, low, high)) in
    (w.0, (low, w.1))

pub start_stands : (image : Image) (libs : List ScriptLib) (p : Players) → AtStart image libs p → Kept (start image (creds_in libs)) → IsHeld p
start_stands image libs p begins kept =
    let creds : List Creds = creds_in libs in
    let at : start image creds ≡ p.state = sym begins.state in
    record {
      kept = subst Kept at kept;
      as_told = subst AreAsTold at (λ g i. absurd i);
      whole = subst LentWhole at (λ g x i j. absurd i);
      places = begins.places ∙ sym (length-map libs _) ∙ ap (λ (s : State). length s.creds) at;
      all = λ lib is.
          let is' : IsLibrary lib (start image creds) = subst (λ s. IsLibrary lib s) begins.state is in
          let l = script_library image libs lib is' in
          subst (λ s. HoldsAll (desk_of s lib) (share_of p lib)) at
          (begins_all image creds lib l.0.creds l.0.lines (share_of p lib) (creds_at libs lib.0 l.0 l.1.0 l.1.1) (begins.begins lib l.0 l.1));
      nobody_else = λ lib none. subst (λ s. HasAll (out_of s lib) nothing) at (start_has_all image creds lib nothing);
    }

pub start_held : (image : Image) (libs : List ScriptLib) (p : Players) → AtStart image libs p → IsFit image.core → Verifies image → IsWhole image → IsHeld p
start_held image libs p begins fit verifies whole = start_stands image libs p begins (start_kept image (creds_in libs) fit verifies whole)

-- ---- turns

abbrev pub Libraries : State → List Placed → Type 0
Libraries s turns = (t : Placed) → In t turns → IsLibrary t.lib s

pub libraries_later : (p : Players) (t : Placed) (turns : List Placed) (moves : List Move) (p' : Players) → Libraries p.state (t ∷ turns) → TakesTurn p t moves p' → Libraries p'.state turns
libraries_later p t turns moves p' libs takes u i = library_after u.lib p.state p'.state (same_creds p t moves p' takes) (libs u (inr i))

pub plays_held : (p : Players) (turns : List Placed) (moves : List Move) (p' : Players) → IsHeld p → Libraries p.state turns → Plays p turns moves p' → IsHeld p'
plays_held p [] moves p' h libs plays = subst IsHeld (sym plays.1) h
plays_held p (t ∷ turns) moves p' h libs plays =
    plays_held plays.middle turns plays.others p' (held_after p t plays.first plays.middle h (libs t (inl refl)) plays.takes)
    (libraries_later p t turns plays.first plays.middle libs plays.takes) plays.rest

-- after its end nothing is out to a library
end_has : (p : Players) (t : Placed) (moves : List Move) (p' : Players) → IsHeld p → IsLibrary t.lib p.state → TakesTurn p t moves p' → is_end t.turn ≡ true → HasAll (out_of p'.state t.lib) nothing
end_has p t moves p' h is takes e =
    end_none t.lib t.turn p.state (share_of p t.lib) (told_to p t.lib) (noted_of p' takes.calls moves) takes.share' takes.told' e (held_stands p h) (h.all t.lib is) takes.comes takes.happen

plays_ended : (p : Players) (turns : List Placed) (moves : List Move) (p' : Players) (lib : LibNo) (b : Bool) → IsHeld p → Libraries p.state turns → Plays p turns moves p' → (b ≡ true → HasAll (out_of p.state lib) nothing) → ended lib.0 b turns ≡ true → HasAll (out_of p'.state lib) nothing
plays_ended p [] moves p' lib b h libs plays so e = subst (λ (q : Players). HasAll (out_of q.state lib) nothing) (sym plays.1) (so e)
plays_ended p (t ∷ turns) moves p' lib b h libs plays so e =
    plays_ended plays.middle turns plays.others p' lib (cond (eqb t.lib.0 lib.0) (is_end t.turn) b)
    (held_after p t plays.first plays.middle h (libs t (inl refl)) plays.takes)
    (libraries_later p t turns plays.first plays.middle libs plays.takes) plays.rest
    (by (eqb t.lib.0 lib.0) refl) e
  where
    by : (own : Bool) → eqb t.lib.0 lib.0 ≡ own → cond own (is_end t.turn) b ≡ true → HasAll (out_of plays.middle.state lib) nothing
    by true is ended =
        subst (λ l. HasAll (out_of plays.middle.state l) nothing) (same_library t.lib lib (eqb-true t.lib.0 lib.0 is))
        (end_has p t plays.first plays.middle h (libs t (inl refl)) plays.takes ended)
    by false not ended =
        subst (λ (o : LibOut). HasAll o nothing)
        (sym (ap (λ (d : DeskSeen). d.out) (others_seen p t plays.first plays.middle lib h (λ s. both_ways (eqb t.lib.0 lib.0) not (eq-eqb t.lib.0 lib.0 (sym s))) plays.takes)))
        (so ended)

-- ---- the end

-- nothing is out to a library that has all of it and nothing
none_there : {X : Type 0} (xs : List X) → ((x : X) → In x xs → ⊥) → xs ≡ []
none_there [] none = refl
none_there (x ∷ xs) none = absurd (none x (inl refl))

pub nothing_out : (s : State) → ((lib : LibNo) → HasAll (out_of s lib) nothing) → NothingOut s
nothing_out s h = record {
  grants = none_there s.open_grants (λ g i. by g i g.kind refl);
  pages = λ n. by_page n (lib_at s.pages_out n) refl;
  numbers = λ n. by_number n (lib_at s.numbers_out n) refl;
}
  where
    library : OpenGrant → LibNo
    library g = record { 0 = g.lib }

    mine : (g : OpenGrant) (is_kind : GrantKind → Bool) → is_kind g.kind ≡ true → In g s.open_grants → In g (grants_of is_kind (library g) s.open_grants)
    mine g is_kind k i =
        In-filter (λ (x : OpenGrant). eqb x.lib g.lib && is_kind x.kind) g s.open_grants i
        (and_from (eqb g.lib g.lib) (is_kind g.kind) (eq-eqb g.lib g.lib refl) k)

    by : (g : OpenGrant) → In g s.open_grants → (k : GrantKind) → g.kind ≡ k → ⊥
    by g i Write k = (h (library g)).writes (shown_of g) (In-map shown_of g (grants_of is_write (library g) s.open_grants) (mine g is_write (ap is_write k) i))
    by g i Read k = (h (library g)).reads (shown_of g) (In-map shown_of g (grants_of is_read (library g) s.open_grants) (mine g is_read (ap is_read k) i))
    by g i Hold k = (h (library g)).holds (hold_of g) (In-map hold_of g (grants_of is_hold (library g) s.open_grants) (mine g is_hold (ap is_hold k) i))

    by_page : (n : ℕ) (o : Option LibNo) → lib_at s.pages_out n ≡ o → lib_at s.pages_out n ≡ None
    by_page n None e = e
    by_page n (Some l) e = absurd ((h l).pages n (In-numbers_to s.pages_out l.0 n e))

    by_number : (n : ℕ) (o : Option LibNo) → lib_at s.numbers_out n ≡ o → lib_at s.numbers_out n ≡ None
    by_number n None e = e
    by_number n (Some l) e = absurd ((h l).numbers n (In-numbers_to s.numbers_out l.0 n e))

-- the credentials at the end
pub plays_creds : (p : Players) (turns : List Placed) (moves : List Move) (p' : Players) → Plays p turns moves p' → p'.state.creds ≡ p.state.creds
plays_creds p [] moves p' plays = ap (λ (q : Players). q.state.creds) plays.1
plays_creds p (t ∷ turns) moves p' plays =
    plays_creds plays.middle turns plays.others p' plays.rest ∙ same_creds p t plays.first plays.middle plays.takes

pub script_libraries : (image : Image) (libs : List ScriptLib) → Libraries (start image (creds_in libs)) (turns_of libs)
script_libraries image libs t i =
    let w : Within 1 libs t = turns_within libs t i in
    let low : 1 ≤ t.lib.0 = w.0 in
    let high : t.lib.0 < 1 + length libs = w.1 in
    let many : length (map (λ (l : ScriptLib). l.creds) libs) ≡ length libs = length-map libs _ in
    (low, omega (arith, high, many))

pub ends_free : PlayedEndsFree
ends_free image libs played fit verifies whole =
    let begin : Players = played.first in
    let h : IsHeld begin = start_held image libs begin played.begins fit verifies whole in
    let libraries : Libraries begin.state (turns_of libs) = subst (λ s. Libraries s (turns_of libs)) (sym played.begins.state) (script_libraries image libs) in
    let last : IsHeld played.last = plays_held begin (turns_of libs) played.moves played.last h libraries played.plays in
    let creds = plays_creds begin (turns_of libs) played.moves played.last played.plays ∙ ap (λ (s : State). s.creds) played.begins.state in
    let nothing_left : (lib : LibNo) → IsLibrary lib played.last.state → HasAll (out_of played.last.state lib) nothing = λ lib is.
    let l = script_library image libs lib (is.0, subst (λ (cs : List Creds). lib.0 ≤ length cs) creds is.1) in
    let low : 1 ≤ lib.0 = is.0 in
    let number : 1 + (lib.0 - 1) ≡ lib.0 = omega (arith, low) in
    let done : ended lib.0 false (turns_of libs) ≡ true = subst (λ n. ended n false (turns_of libs) ≡ true) number (all_ended libs (lib.0 - 1) l.0 l.1.1) in
    plays_ended begin (turns_of libs) played.moves played.last lib false h libraries played.plays (λ e. absurd (false≢true e)) done in
    nothing_out played.last.state (λ lib. by last nothing_left lib (leb 1 lib.0) refl (leb lib.0 (length played.last.state.creds)) refl)
  where
    by : IsHeld played.last → ((lib : LibNo) → IsLibrary lib played.last.state → HasAll (out_of played.last.state lib) nothing) → (lib : LibNo) (a : Bool) → leb 1 lib.0 ≡ a → (b : Bool) → leb lib.0 (length played.last.state.creds) ≡ b → HasAll (out_of played.last.state lib) nothing
    by last left lib true low true high = left lib (leb-true 1 lib.0 low, leb-true lib.0 (length played.last.state.creds) high)
    by last left lib false f b high = last.nobody_else lib (λ is. both_ways (leb 1 lib.0) f (le-leb 1 lib.0 is.0))
    by last left lib true low false f = last.nobody_else lib (λ is. both_ways (leb lib.0 (length played.last.state.creds)) f (le-leb lib.0 (length played.last.state.creds) is.1))
