-- A settle of what is ready: what holds once the read leases are back, and after it.
use Rattle.trio_ctl.proofs.Words.{◌&&◌, ◌++◌, ◌+◌, ◌==◌, ◌||◌, ◌∙◌, ◌∷◌, ◌≡◌, ◌≤◌, AcceptedBundle, AreBack, AreLent, AreLentTo, Ask, Back, Bool, Bundle, Bundled, Creds, Done, Ends, Entry, Err, GivenEvent, GrantKind, Happens, HasHistory, HasRoom, Hold, HoldParts, Image, In, In-cases, In-filter, In-is_among, In-list_any, In-map, IsAccepted, IsJudgeable, IsLentTo, IsLibrary, IsOutcome, IsRecorded, IsRefused, IsSettled, KeepsUntouched, Kept, LentFile, LentIsTrue, LentWhole, LibNo, List, Logged, None, NotSettled, Notes, Ok, OpenGrant, Option, OutAlike, Outline, Parcel, Parted, Read, Ready, RefusedBundle, Release, ReleaseAnswer, Result, SeenAfter, Settle, SettleAsked, Sheet, Shown, Some, State, Step, TellsOutcome, Told, WereLent, Write, [], all_back, and_from, ap, arith, back_entries, begun_by, both_ways, bundle_in, bundle_of, case_in, creds_in, creds_of, desk_of, eq-eqb, eqb-true, false, false_from_ne_true, false≢true, file_numbers, filter, filter-In, fresh_sheet, given_back, grants_of, handed_in, hold_numbers, hold_of, inl, ino_numbers, inr, is_accepted, is_among, is_back, is_hold, is_in_bundle, is_library, is_read, is_write, is_written, leases_stay_true, length, length-append, length-map, lib_at, list_all, list_all-each, list_any, list_any-In, map, map-In, map-map, next, not, not-true, not_from_false, noted_by, numbers_to, out_after, out_of, page_numbers, parcel_of, parted_hold, recorded, refl, root_of, settle_told, settled, sheet_numbers, sheets_untouched, shown_of, sizes_of, step_creds, step_keeps_lent, step_keeps_root, step_kept, subst, sym, true, verdict_of, verdict_on, without_reads, write_is, ℕ}
use Rattle.std.proofs.lemmas.List.{get_or_default}
use Rattle.trio_nodes.specs.declared.call.Done.{Done as CallDone}
use Rattle.trio_nodes.specs.declared.entry.Entry.TheVariants as entry
use Rattle.trio_lists.proofs.Filters.{In-get_or, filter-none}
use Rattle.trio_layout.specs.Case.{case_of}
use Rattle.trio_desk.specs.Out.{nothing_out}
use Rattle.trio_desk.specs.Ready.{HandsInAll, leases_in, lent_files}
use Rattle.trio_state.specs.Allotments.{has_none_out}
use Rattle.trio_state.specs.Bundles.{has_all}
use Rattle.trio_state.specs.Given.{HasNoRead}
use Rattle.trio_state.specs.Step as step
use Rattle.trio_laws.specs.session.Grants.{IsHoldOf, IsLeaseOf, LendsPages}
use Rattle.trio_laws.specs.session.Lent.{IsHeldBy}
use Rattle.trio_laws.specs.session.Others.{LeasesHold}
use Rattle.trio_laws.specs.session.Settles.{IsMoment}
use Rattle.trio_laws.proofs.Backs.{settled_back}
use Rattle.trio_laws.proofs.Bundles.{unparted_all}
use Rattle.trio_laws.proofs.session.Accepting.{ready_is_accepted}
use Rattle.trio_laws.proofs.session.Moments.{moment_lasts_back}
use Rattle.trio_laws.proofs.session.Settling.{settle_is_recorded}
use Rattle.trio_ctl.specs.declared.outcome.Outcome.{Outcome}
use Rattle.trio_ctl.proofs.Underways.{idle_in, underway_after, underway_in}
use Rattle.trio_ctl.proofs.LeasesBack.{all_back_is, are_back, backs_kept, backs_leave, left_out}
use Rattle.trio_ctl.proofs.DeskGiven.{behind, given_to}
use Rattle.trio_ctl.proofs.DeskOuts.{In-numbers_to, alike, ended_out, hold_is, left_numbers, read_is, written_among}
use Rattle.trio_ctl.proofs.Recording.{backs_history, still_mine}
use Rattle.trio_ctl.proofs.HandedBundles.{handed_is}
use Rattle.trio_ctl.proofs.RecordedReleases.{lent_fit, noted_then}

-- ---- what a grant lent, as its lease shows it

pub shown_is_lease : (g : OpenGrant) → IsLeaseOf g (shown_of g)
shown_is_lease g = record { ino = refl; kind = refl; body = refl; blocks = sheets_untouched g.blocks }

-- a file that is out is lent to the library
lent_behind : (s : State) (lib : LibNo) (is_kind : GrantKind → Bool) (f : Shown) → ((k : GrantKind) → is_kind k ≡ true → LendsPages k) → In f (map shown_of (grants_of is_kind lib s.open_grants)) → IsLentTo s lib.0 f
lent_behind s lib is_kind f lends i =
    let w = behind shown_of is_kind s lib f i in
    record { grant = w.grant; is_open = w.is_open; lib = w.lib; lends = lends w.grant.kind w.kind; lease = subst (IsLeaseOf w.grant) (sym w.is) (shown_is_lease w.grant) }

lends_write : (k : GrantKind) → is_write k ≡ true → LendsPages k
lends_write k e = subst LendsPages (sym (write_is k e)) tt

lends_read : (k : GrantKind) → is_read k ≡ true → LendsPages k
lends_read k e = subst LendsPages (sym (read_is k e)) tt

pub write_lent : (s : State) (lib : LibNo) (f : Shown) → In f (out_of s lib).writes → IsLentTo s lib.0 f
write_lent s lib f i = lent_behind s lib is_write f lends_write i

pub read_lent : (s : State) (lib : LibNo) (f : Shown) → In f (out_of s lib).reads → IsLentTo s lib.0 f
read_lent s lib f i = lent_behind s lib is_read f lends_read i

-- a hold that is out is the library's
pub hold_lent : (s : State) (lib : LibNo) (h : HoldParts) → In h (out_of s lib).holds → IsHeldBy s lib.0 h
hold_lent s lib h i =
    let w = behind hold_of is_hold s lib h i in
    record {
      grant = w.grant;
      is_open = w.is_open;
      lib = w.lib;
      kind = hold_is w.grant.kind w.kind;
      hold = subst (IsHoldOf w.grant) (sym w.is) (record { ino = refl; kind = refl; body = refl; children = refl });
    }

-- ---- all that the library has is handed in

module _ (s : State) (lib : LibNo) (p : Parcel) (back : List Shown) (all : HandsInAll (out_of s lib) p back) where
  lent_to_library : AreLentTo s lib.0 (leases_in p back)
  lent_to_library = record {
    files = λ f i. elim (In-cases f (lent_files p.writes) back i) [
      | inl w ↦
          let m = map-In (λ (x : LentFile). x.lent) f p.writes w in
          subst (IsLentTo s lib.0) (sym m.2) (write_lent s lib m.0.lent (all.given.writes m.0 m.1).lent)
      | inr r ↦ read_lent s lib f ((all.reads f).1 r)
    ];
    holds = λ h i. hold_lent s lib h (all.given.holds h i);
  }

  grant_seen : {Y : Type 0} (v : OpenGrant → Y) (is_kind : GrantKind → Bool) (g : OpenGrant) → In g s.open_grants → (g.lib == lib.0) ≡ true → is_kind g.kind ≡ true → In (v g) (map v (grants_of is_kind lib s.open_grants))
  grant_seen v is_kind g i mine kind =
      In-map v g (grants_of is_kind lib s.open_grants)
      (In-filter (λ (x : OpenGrant). x.lib == lib.0 && is_kind x.kind) g s.open_grants i (and_from (g.lib == lib.0) (is_kind g.kind) mine kind))

  -- each of the library's grants but those for reading is in the bundle
  own_in : (g : OpenGrant) → In g s.open_grants → (not (g.lib == lib.0) || is_read g.kind || is_in_bundle lib.0 (bundle_of p) g) ≡ true
  own_in g i = by (g.lib == lib.0) g.kind refl refl
    where
      parts : (mine : Bool) (kind : GrantKind) → Bool
      parts mine kind = not mine || is_read kind || (mine && ((is_write kind && is_written (bundle_of p) g.ino) || (is_hold kind && is_among g.ino (bundle_of p).holds)))

      by : (mine : Bool) (kind : GrantKind) → (g.lib == lib.0) ≡ mine → g.kind ≡ kind → (not mine || is_read g.kind || (mine && ((is_write g.kind && is_written (bundle_of p) g.ino) || (is_hold g.kind && is_among g.ino (bundle_of p).holds)))) ≡ true
      by false kind m e = refl
      by true Read m e = ap (λ k. false || is_read k || (true && ((is_write k && is_written (bundle_of p) g.ino) || (is_hold k && is_among g.ino (bundle_of p).holds)))) e
      by true Write m e =
          let w = map-In (λ (x : LentFile). x.lent) (shown_of g) p.writes (all.writes (shown_of g) (grant_seen shown_of is_write g i m (ap is_write e))) in
          let ino : w.0.stands.ino ≡ g.ino = (all.given.writes w.0 w.1).same.ino ∙ ap (λ (x : Shown). x.ino) (sym w.2) in
          let among : is_among g.ino (file_numbers p.writes) ≡ true = In-is_among g.ino (file_numbers p.writes) (subst (λ n. In n (file_numbers p.writes)) ino (In-map (λ (f : LentFile). f.stands.ino) w.0 p.writes w.1)) in
          let written : is_written (bundle_of p) g.ino ≡ true = written_among p g.ino ∙ among in
          ap (λ k. false || is_read k || (true && ((is_write k && is_written (bundle_of p) g.ino) || (is_hold k && is_among g.ino (bundle_of p).holds)))) e
          ∙ ap (λ b. b || false) written
      by true Hold m e =
          let h = all.holds (hold_of g) (grant_seen hold_of is_hold g i m (ap is_hold e)) in
          let held : is_among g.ino (hold_numbers p.holds) ≡ true = In-is_among g.ino (hold_numbers p.holds) (In-map (λ (x : HoldParts). x.ino) (hold_of g) p.holds h) in
          ap (λ k. false || is_read k || (true && ((is_write k && is_written (bundle_of p) g.ino) || (is_hold k && is_among g.ino (bundle_of p).holds)))) e ∙ held

  none_left : (outs : List (Option LibNo)) (these : List ℕ) → ((n : ℕ) → In n (numbers_to outs lib.0) → In n these) → has_none_out lib.0 (out_after outs these) ≡ true
  none_left outs these every =
      not_from_false (list_any (is_library lib.0) (out_after outs these))
      (false_from_ne_true (list_any (is_library lib.0) (out_after outs these))
      (λ y.
      let o = list_any-In (is_library lib.0) (out_after outs these) y in
      let k = In-get_or o.0 (out_after outs these) o.1 in
      let at : lib_at (out_after outs these) k.0 ≡ o.0 = get_or_default (out_after outs these) k.0 None o.0 k.1 ∙ k.2 in
      let f = filter-In (λ m. not (is_among m these)) k.0 (numbers_to outs lib.0) ((left_numbers outs lib.0 these k.0).0 (In-numbers_to (out_after outs these) lib.0 k.0 (at ∙ library_is o.0 o.2))) in
      both_ways (is_among k.0 these) (not-true (is_among k.0 these) f.1) (In-is_among k.0 these (every k.0 f.0))))
    where
      library_is : (o : Option LibNo) → is_library lib.0 o ≡ true → o ≡ Some (record { 0 = lib.0 })
      library_is None e = absurd (false≢true e)
      library_is (Some l) e = ap (λ (n : ℕ). Some (record { 0 = n })) (eqb-true l.0 lib.0 e)

  -- so it is in each state with no more grants and the same out
  pub all_in : (t : State) → ((g : OpenGrant) → In g t.open_grants → In g s.open_grants) → t.pages_out ≡ s.pages_out → t.numbers_out ≡ s.numbers_out → has_all t lib.0 (bundle_of p) ≡ true
  all_in t fewer pages numbers =
      let grants : Bool = list_all (λ (g : OpenGrant). not (g.lib == lib.0) || is_read g.kind || is_in_bundle lib.0 (bundle_of p) g) t.open_grants in
      let no_pages : Bool = has_none_out lib.0 (out_after t.pages_out (sheet_numbers (bundle_of p).pages)) in
      let no_numbers : Bool = has_none_out lib.0 (out_after t.numbers_out (bundle_of p).numbers) in
      and_from (grants && no_pages) no_numbers
      (and_from grants no_pages
      (list_all-each (λ (g : OpenGrant). not (g.lib == lib.0) || is_read g.kind || is_in_bundle lib.0 (bundle_of p) g) t.open_grants (λ g i. own_in g (fewer g i)))
      (ap (λ o. has_none_out lib.0 (out_after o (sheet_numbers (bundle_of p).pages))) pages ∙ none_left s.pages_out (sheet_numbers (bundle_of p).pages) page_in))
      (ap (λ o. has_none_out lib.0 (out_after o (bundle_of p).numbers)) numbers ∙ none_left s.numbers_out (bundle_of p).numbers all.numbers)
    where
      page_in : (n : ℕ) → In n (numbers_to s.pages_out lib.0) → In n (sheet_numbers (bundle_of p).pages)
      page_in n i = subst (λ l. In n l) (sym (map-map (λ (x : Sheet). x.page) fresh_sheet p.pages)) (all.pages n i)

  pub lent_reads : AreLent (out_of s lib) back
  lent_reads = record { are_out = λ f i. (all.reads f).1 i; once = all.reads_once }

  pub back_in_turn : AreBack s lib back
  back_in_turn = are_back s lib back lent_reads

  fewer_then : (g : OpenGrant) → In g (all_back s lib back).open_grants → In g s.open_grants × (is_back lib.0 back g ≡ false)
  fewer_then g i =
      let f = filter-In (λ (x : OpenGrant). not (is_back lib.0 back x)) g s.open_grants (subst (λ (t : State). In g t.open_grants) (all_back_is s lib back) i) in
      (f.0, not-true (is_back lib.0 back g) f.1)

  pub all_then : has_all (all_back s lib back) lib.0 (bundle_of p) ≡ true
  all_then = all_in (all_back s lib back) (λ g i. (fewer_then g i).0) (ap (λ (t : State). t.pages_out) (all_back_is s lib back)) (ap (λ (t : State). t.numbers_out) (all_back_is s lib back))

  -- no read grant of the library is left
  pub no_read_then : HasNoRead (all_back s lib back) lib.0
  no_read_then g i mine read =
      let f = fewer_then g i in
      let own : (g.lib == lib.0) ≡ true = eq-eqb g.lib lib.0 mine in
      let quiet : is_read g.kind ≡ true = ap is_read read in
      let r = (all.reads (shown_of g)).0 (grant_seen shown_of is_read g f.0 own quiet) in
      let there : list_any (λ (x : Shown). g.ino == x.ino) back ≡ true = In-list_any (λ (x : Shown). g.ino == x.ino) (shown_of g) back r (eq-eqb g.ino g.ino refl) in
      both_ways (is_back lib.0 back g) f.1 (and_from (g.lib == lib.0 && is_read g.kind) (list_any (λ (x : Shown). g.ino == x.ino) back) (and_from (g.lib == lib.0) (is_read g.kind) own quiet) there)

  -- ---- the moment

  module _ (k : Kept s) (t : LentIsTrue s) where
    here : LeasesHold s lib.0 (sizes_of s) (root_of s) (leases_in p back)
    here = leases_stay_true s lib.0 (leases_in p back) k t lent_to_library

    pub moment : IsMoment s (desk_of s lib) p back
    moment = record {
      judgeable = record {
        kept = k;
        given = given_to s lib p all.given;
        closed = unparted_all s k lib.0 (bundle_of p) (all_in s (λ g i. i) refl refl);
      };
      creds = refl;
      range = refl;
      inodes = refl;
      holds = λ h i.
          let w = behind hold_of is_hold s lib h (all.given.holds h i) in
          record {
            grant = w.grant;
            is_open = w.is_open;
            kind = hold_is w.grant.kind w.kind;
            ino = ap (λ (x : HoldParts). x.ino) (sym w.is);
            body = ap (λ (x : HoldParts). x.body) w.is;
          };
      agrees = here.agrees;
      places = here.places;
    }

    pub moment_then : IsMoment (all_back s lib back) (desk_of s lib) p back
    moment_then =
        backs_leave (λ u. IsMoment u (desk_of s lib) p back) s lib back
        (λ u ino m g. moment_lasts_back u ino Done (given_back u lib.0 ino) (desk_of s lib) p back g (inl (refl, refl)) m) moment back_in_turn

-- ---- what the give backs leave

-- a promised entry is made by each give back
pub room_then : (log log' : List Entry) (lib : LibNo) (back : List Shown) (n n' p p' : ℕ) → length log ≡ n → length log' ≡ n' → log' ≡ log ++ back_entries lib back → p' + length back ≡ p
    → HasRoom (record { made = n; promised = p }) 1 → HasRoom (record { made = n'; promised = p' }) 1
room_then log log' lib back n n' p p' made made' given less room =
    let a = ap length given ∙ length-append log (back_entries lib back) in
    let m = length-map back (λ (f : Shown). entry.Back lib f.ino) in
    omega (arith, a, m, made, made', less, room)

-- the places for the promised entries and for one more are there still
pub places_then : (es : List Entry) (lib : LibNo) (back : List Shown) (p p' room : ℕ) → length es + p + 1 ≤ room → p' + length back ≡ p → length (es ++ back_entries lib back) + p' + 1 ≤ room
places_then es lib back p p' room places less =
    let a = length-append es (back_entries lib back) in
    let n = length-map back (λ (f : Shown). entry.Back lib f.ino) in
    omega (arith, a, n, places, less)

-- the bundle is judged in the same case
pub case_then : (s : State) (lib : LibNo) (back : List Shown) (b : Bundle) → Kept s → AreBack s lib back → case_in (all_back s lib back) lib.0 b ≡ case_in s lib.0 b
case_then s lib back b k a =
    let P : State → Type 0 = λ t. Kept t × (settled t ≡ settled s) × (t.creds ≡ s.creds) in
    let q = backs_leave P s lib back
    (λ t ino p g. (step_kept t (given_back t lib.0 ino) (Back lib.0 ino) Done p.0 g (inl (refl, refl)), settled_back t p.0 lib.0 ino ∙ p.1, p.2))
    (k, refl, refl) a in
    ap (λ (i : Image). case_of i (creds_of (all_back s lib back) lib.0) b) q.1
    ∙ ap (λ (l : List Creds). case_of (settled s) (creds_in l lib.0) b) q.2

no_read_back : (a any : Bool) → (a && false && any) ≡ false
no_read_back true any = refl
no_read_back false any = refl

-- a write lease shows as lent what a grant lent that is still open
pub lent_then : (s : State) (lib : LibNo) (back : List Shown) (files : List LentFile) → WereLent s lib.0 files → WereLent (all_back s lib back) lib.0 files
lent_then s lib back files lent f i =
    let l = lent f i in
    let stays : is_back lib.0 back l.grant ≡ false =
    ap (λ (t : Bool). l.grant.lib == lib.0 && t && list_any (λ (x : Shown). l.grant.ino == x.ino) back) (ap is_read l.kind) ∙ no_read_back (l.grant.lib == lib.0) (list_any (λ (x : Shown). l.grant.ino == x.ino) back) in
    record {
      grant = l.grant;
      is_open =
          subst (λ (t : State). In l.grant t.open_grants) (sym (all_back_is s lib back))
          (In-filter (λ (x : OpenGrant). not (is_back lib.0 back x)) l.grant s.open_grants l.is_open (not_from_false (is_back lib.0 back l.grant) stays));
      lib = l.lib;
      kind = l.kind;
      ino = l.ino;
      lent = l.lent;
    }

-- ---- the step

accepted_is : (v : ReleaseAnswer) → verdict_of v ≡ step.Accepted → v ≡ AcceptedBundle
accepted_is AcceptedBundle e = refl
accepted_is (RefusedBundle rule ino page slot) e = absurd (let wrong : step.Refused (record { rule = rule; ino = ino; page = page; slot = slot }) ≡ step.Accepted = e in cc wrong)

not_wanting : (v : ReleaseAnswer) → verdict_of v ≡ step.NoMemory → ⊥
not_wanting AcceptedBundle e = let wrong : step.Accepted ≡ step.NoMemory = e in cc wrong
not_wanting (RefusedBundle rule ino page slot) e = let wrong : step.Refused (record { rule = rule; ino = ino; page = page; slot = slot }) ≡ step.NoMemory = e in cc wrong

-- the end of a release of what is accepted, and all that the library has, is that of a settle
pub settles : (t s' : State) (lib : ℕ) (b : Bundle) (v : ReleaseAnswer) → is_accepted (settled t) (creds_of t lib) b ≡ true → parted_hold t lib b ≡ None → has_all t lib b ≡ true
    → Step t (Release lib b) (verdict_of v) s' → Step t (Settle lib b) step.Settled s'
settles t s' lib b v sound closed all (inl (Parted n p a e)) = absurd (let wrong : None ≡ Some n = sym closed ∙ p in cc wrong)
settles t s' lib b v sound closed all (inl (IsAccepted p y a ends)) = inl (refl, all, y, ends)
settles t s' lib b v sound closed all (inl (IsRefused p f why a tells ends)) = absurd (both_ways (is_accepted (settled t) (creds_of t lib) b) f sound)
settles t s' lib b v sound closed all (inr none) = absurd (not_wanting v none.1)

-- ---- all of it, over the controller's own state

module _ (s : State) (lib : LibNo) (b : Bundled) (back : List Shown) (calls : List CallDone) (k : Kept s) (t : LentIsTrue s)
    (ready : Ready (desk_of s lib) (parcel_of b) back calls) where
  abbrev p : Parcel
  p = parcel_of b

  abbrev then' : State
  then' = all_back s lib back

  abbrev ask : Ask
  ask = SettleAsked p back calls

  m : IsMoment then' (desk_of s lib) p back
  m = moment_then s lib p back ready.all k t

  pub judgeable_then : IsJudgeable then' lib.0 (bundle_in b)
  judgeable_then = m.judgeable

  pub given_then : GivenEvent then' (Settle lib.0 (bundle_in b))
  given_then = (m.judgeable.given, no_read_then s lib p back ready.all)

  -- after want of memory nothing has happened
  pub not_settled : Happens s lib ask NotSettled s
  not_settled = record { back = back_in_turn s lib p back ready.all; given = given_then; is_step = refl; lease = tt }

  pub settle_step : (s' : State) (v : ReleaseAnswer) → Step then' (Release lib.0 (bundle_in b)) (verdict_of v) s' → Step then' (Settle lib.0 (bundle_in b)) step.Settled s'
  settle_step s' v st =
      settles then' s' lib.0 (bundle_in b) v (ready_is_accepted then' (desk_of s lib) p back calls m ready) m.judgeable.closed (all_then s lib p back ready.all) st

  pub settled_then : (s' : State) (v : ReleaseAnswer) → Step then' (Release lib.0 (bundle_in b)) (verdict_of v) s' → Happens s lib ask IsSettled s'
  settled_then s' v st = record { back = back_in_turn s lib p back ready.all; given = given_then; is_step = settle_step s' v st; lease = tt }

  -- what holds of the log and of the notes
  pub after_settle : (first : Image) (s' : State) (begun begun' : List (Option Outline)) (promised promised' : ℕ) (log mid log' : Logged) (notes notes' : Notes) (outcome : Outcome) (told : Told) (v : ReleaseAnswer)
      → HasHistory first s begun promised log notes → begun_by (underway_in s begun) lib.0 ≡ None → begun' ≡ begun → IsLibrary s.creds lib.0 → WereLent s lib.0 b.writes → ((f : LentFile) → In f b.writes → KeepsUntouched f)
      → IsOutcome (case_in s lib.0 (bundle_in b)) outcome → TellsOutcome (case_in s lib.0 (bundle_in b)) notes (handed_in b) outcome told
      → v ≡ verdict_on outcome → Step then' (Release lib.0 (bundle_in b)) (verdict_of v) s' → notes' ≡ noted_by v told.files notes
      → mid.entries ≡ log.entries ++ back_entries lib back → promised' + length back ≡ promised → length mid.entries + promised' ≤ mid.room
      → log'.entries ≡ mid.entries ++ entry.Batch lib calls (handed_in b) ∷ [] → length log'.entries + promised' ≤ log'.room
      → HasHistory first s' begun' promised' log' notes'
  after_settle first s' begun begun' promised promised' log mid log' notes notes' outcome told v h idle stay its lent keeps o tells verdict st noted' backs less room e room' =
      let kept : Kept then' = m.judgeable.kept in
      let h' : HasHistory first then' begun promised' mid notes = backs_history first s lib back begun promised promised' log mid notes h idle its (back_in_turn s lib p back ready.all) backs less room in
      let its' : IsLibrary then'.creds lib.0 = subst (λ (x : State). IsLibrary x.creds lib.0) (sym (all_back_is s lib back)) its in
      let same : case_in s lib.0 (bundle_in b) ≡ case_in then' lib.0 (bundle_in b) = sym (case_then s lib back (bundle_in b) k (back_in_turn s lib p back ready.all)) in
      let o' : IsOutcome (case_in then' lib.0 (bundle_in b)) outcome = subst (λ c. IsOutcome c outcome) same o in
      let tells' : TellsOutcome (case_in then' lib.0 (bundle_in b)) notes (handed_in b) outcome told = subst (λ c. TellsOutcome c notes (handed_in b) outcome told) same tells in
      let end : Step then' (Settle lib.0 (bundle_in b)) step.Settled s' = settle_step s' v st in
      let marks = lent_fit then' lib.0 b kept (lent_then s lib back b.writes lent) keeps in
      let released : Step then' (Release lib.0 (bundle_in b)) (verdict_of (verdict_on outcome)) s' = subst (λ x. Step then' (Release lib.0 (bundle_in b)) (verdict_of x) s') verdict st in
      record {
        all =
            subst (λ es. IsRecorded (recorded first s' es)) (sym e)
            (settle_is_recorded (recorded first then' mid.entries) s' (desk_of s lib) p back calls (handed_in b) h'.all its' m ready (no_read_then s lib p back ready.all) (handed_is b) marks end);
        underway = underway_after then' s' begun begun' (Settle lib.0 (bundle_in b)) step.Settled h'.underway (idle_in s then' begun lib.0 idle) given_then end stay;
        room = room';
        mine = still_mine then' (Settle lib.0 (bundle_in b)) step.Settled s' kept given_then end its' h'.mine;
        lent = step_keeps_lent then' (Settle lib.0 (bundle_in b)) step.Settled s' kept h'.all.whole given_then end h'.lent;
        noted = noted' ∙ ap (λ x. noted_by x told.files notes) verdict ∙ noted_then then' s' lib b outcome told notes judgeable_then o' h'.noted tells' released;
        sizes = (step_keeps_root then' (Settle lib.0 (bundle_in b)) step.Settled s' kept h'.all.whole given_then end).0 ∙ h'.sizes;
      }

-- ---- what is seen of the desk

-- where nothing was settled, by what is seen of the controller
pub not_settled_seen : {s seen : State} (lib : LibNo) (b : Bundled) (back : List Shown) (calls : List CallDone) → Kept s → LentIsTrue s → s ≡ seen → Ready (desk_of seen lib) (parcel_of b) back calls → Happens seen lib (SettleAsked (parcel_of b) back calls) NotSettled s
not_settled_seen {s} {seen} lib b back calls kept lent same ready =
    subst (λ (v : State). Happens v lib (SettleAsked (parcel_of b) back calls) NotSettled s) same
    (not_settled s lib b back calls kept lent (subst (λ (v : State). Ready (desk_of v lib) (parcel_of b) back calls) (sym same) ready))

module _ (s s' : State) (lib : LibNo) (p : Parcel) (back : List Shown) (all : HandsInAll (out_of s lib) p back) where
  -- once the read leases are back, but for them the same is out
  abbrev left : OutAlike (out_of (all_back s lib back) lib) (without_reads (out_of s lib) back)
  left = subst (λ (t : State). OutAlike (out_of t lib) (without_reads (out_of s lib) back)) (sym (all_back_is s lib back)) (left_out s lib back)

  abbrev among_writes : Shown → Bool
  among_writes f = not (is_among f.ino (file_numbers p.writes))

  abbrev among_holds : HoldParts → Bool
  among_holds h = not (is_among h.ino (hold_numbers p.holds))

  abbrev among_reads : Shown → Bool
  among_reads f = not (is_among f.ino (map (λ (x : Shown). x.ino) back))

  no_number : (these outs : List ℕ) → ((n : ℕ) → In n outs → In n these) → (n : ℕ) → In n (filter (λ m. not (is_among m these)) outs) → ⊥
  no_number these outs every n i =
      let f = filter-In (λ m. not (is_among m these)) n outs i in
      both_ways (is_among n these) (not-true (is_among n these) f.1) (In-is_among n these (every n f.0))

  -- and once the bundle is, nothing is
  nothing_then : Ends (all_back s lib back) lib.0 (bundle_of p) (next (settled (all_back s lib back)) (bundle_of p)) s' → OutAlike (out_of s' lib) nothing_out
  nothing_then ends =
      let e = ended_out (all_back s lib back) s' lib p (next (settled (all_back s lib back)) (bundle_of p)) ends in
      record {
        writes =
            e.writes ∙ ap (filter among_writes) left.writes
            ∙ filter-none among_writes (out_of s lib).writes
            (λ f i. (let w = map-In (λ (x : LentFile). x.lent) f p.writes (all.writes f i) in
            let ino : w.0.stands.ino ≡ f.ino = (all.given.writes w.0 w.1).same.ino ∙ ap (λ (x : Shown). x.ino) (sym w.2) in
            ap not (In-is_among f.ino (file_numbers p.writes) (subst (λ n. In n (file_numbers p.writes)) ino (In-map (λ (x : LentFile). x.stands.ino) w.0 p.writes w.1)))));
        reads =
            e.reads ∙ left.reads
            ∙ filter-none among_reads (out_of s lib).reads
            (λ f i. ap not (In-is_among f.ino (map (λ (x : Shown). x.ino) back) (In-map (λ (x : Shown). x.ino) f back ((all.reads f).0 i))));
        holds =
            e.holds ∙ ap (filter among_holds) left.holds
            ∙ filter-none among_holds (out_of s lib).holds
            (λ h i. ap not (In-is_among h.ino (hold_numbers p.holds) (In-map (λ (x : HoldParts). x.ino) h p.holds (all.holds h i))));
        pages = λ n. (λ i. no_number (page_numbers p.pages) (out_of (all_back s lib back) lib).pages (λ m j. all.pages m ((left.pages m).0 j)) n ((e.pages n).0 i), λ i. absurd i);
        numbers = λ n. (λ i. no_number (ino_numbers p.inodes) (out_of (all_back s lib back) lib).numbers (λ m j. all.numbers m ((left.numbers m).0 j)) n ((e.numbers n).0 i), λ i. absurd i);
      }

pub settle_seen : {A B : Type 0} (s s' : State) (lib : LibNo) (p : Parcel) (back : List Shown) (calls : List CallDone) (r : Result A B) → Kept s → LentWhole s → Ready (desk_of s lib) p back calls
    → Happens s lib (SettleAsked p back calls) (settle_told r) s' → SeenAfter (desk_of s lib) (SettleAsked p back calls) (settle_told r) (desk_of s' lib)
settle_seen s s' lib p back calls (Err came) k w ready h =
    subst (λ (t : State). SeenAfter (desk_of s lib) (SettleAsked p back calls) NotSettled (desk_of t lib)) (sym h.is_step)
    (record { lib = refl; creds = refl; sizes = refl; root = refl; out = alike (out_of s lib) })
settle_seen s s' lib p back calls (Ok done) k w ready h =
    let t : State = all_back s lib back in
    let same = all_back_is s lib back in
    let k' : Kept t = backs_kept s lib back k h.back in
    let w' : LentWhole t = λ g x i j. w g x (fewer_then s lib p back ready.all g i).0 j in
    let root = step_keeps_root t (Settle lib.0 (bundle_of p)) step.Settled s' k' w' h.given h.is_step in
    record {
      lib = refl;
      creds = ap (λ (l : List Creds). creds_in l lib.0) (step_creds t (Settle lib.0 (bundle_of p)) step.Settled s' h.is_step ∙ ap (λ (x : State). x.creds) same);
      sizes = root.0 ∙ ap sizes_of same;
      root = root.1 ∙ ap root_of same;
      out = nothing_then s s' lib p back ready.all (ends h.is_step);
    }
  where
    ends : Step (all_back s lib back) (Settle lib.0 (bundle_of p)) step.Settled s' → Ends (all_back s lib back) lib.0 (bundle_of p) (next (settled (all_back s lib back)) (bundle_of p)) s'
    ends (inl d) = d.3
    ends (inr n) = absurd (let wrong : step.Settled ≡ step.NoMemory = n.1 in cc wrong)
