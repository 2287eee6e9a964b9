-- A moment at which what is handed in agrees with the state lasts through the steps of others, and through give backs.
use Rattle.trio_laws.proofs.Words.{◌&&◌, ◌∙◌, ◌∷◌, ◌≡◌, Agrees, AllStand, Back, Bool, Bundle, Creds, CtlAnswer, DeskSeen, Does, Ends, Event, GivenTo, GrantFault, GrantKind, HasGrant, HoldParts, Image, In, In-filter, In-map, IsJudgeable, IsMoment, Kept, LentWhole, List, ModeFault, Move, Nodes, None, OpenGrant, Option, Parcel, Read, Release, ReleaseEnd, Row, Shown, Some, State, Step, Trace, WasHeld, [], and_right, ap, arith, bundle_of, creds_in, creds_of, eqb, false, filter-In, given_back, granted_to, inl, inr, is_read, library_of, moded_to, not, not_from_false, parted_hold, refl, standing_of, subst, sym, ℕ}
use Rattle.std.proofs.Common.{map}
use Rattle.trio_desk.specs.Ready.{leases_in}
use Rattle.trio_laws.specs.session.Others.{state_after}
use Rattle.trio_laws.specs.session.Settles.{MomentLasts, MomentLastsBack, ReadyIsAcceptedThrough}
use Rattle.trio_laws.proofs.Bundles.{hold_reads, unparted_at, unparted_from}
use Rattle.trio_laws.proofs.Cases.{after_allot, after_no_grant, after_no_mode}
use Rattle.trio_laws.proofs.OtherSteps.{other_step_leaves, given_through, closed_through}
use Rattle.trio_laws.proofs.Others.{LeavesTo}
use Rattle.trio_laws.proofs.Runs.{step_kept}
use Rattle.trio_laws.proofs.StateFacts.{alone}
use Rattle.trio_laws.proofs.history.BackStep.{back_nodes}
use Rattle.trio_laws.proofs.history.Grows.{step_creds, step_whole}
use Rattle.trio_laws.proofs.session.Accepting.{ready_is_accepted}
use Rattle.trio_laws.proofs.session.Steps.{step_leaves_leases}

-- ---- no step changes the sizes

-- the same core pages, and as many inode numbers
pub record SameSizes (s s' : State) : Type 0 where
  pub range : s'.home.core.range ≡ s.home.core.range
  pub inodes : s'.home.core.inodes ≡ s.home.core.inodes

here : (s : State) → SameSizes s s
here s = record { range = refl; inodes = refl }

ends_sizes : (s s' : State) (lib : ℕ) (b : Bundle) (image : Image) → image.core.range ≡ s.home.core.range → image.core.inodes ≡ s.home.core.inodes → Ends s lib b image s' → SameSizes s s'
ends_sizes s s' lib b image range inodes e = search arith

grant_sizes : (s : State) (lib ino : ℕ) (kind : GrantKind) (f : Option GrantFault) (o : Option Row) → SameSizes s (granted_to s lib ino kind f o).after
grant_sizes s lib ino kind f o = search (arith, after_no_grant, SameSizes, here)

mode_sizes : (s : State) (ino mode : ℕ) (f : Option ModeFault) → SameSizes s (moded_to s ino mode f).after
mode_sizes s ino mode (Some f) = after_no_mode (SameSizes s) s f (here s) (record { range = refl; inodes = refl })
mode_sizes s ino mode None = record { range = refl; inodes = refl }

release_sizes : (s : State) (lib : ℕ) (b : Bundle) (answer : CtlAnswer) (s' : State) → ReleaseEnd s lib b answer s' → SameSizes s s'
release_sizes s lib b answer s' h = search (arith, SameSizes, here, ends_sizes)

does_sizes : (s : State) (event : Event) (answer : CtlAnswer) (s' : State) → Does s event answer s' → SameSizes s s'
does_sizes s event answer s' d = search (arith, SameSizes, grant_sizes, after_allot, release_sizes, ends_sizes, mode_sizes)

pub step_sizes : (s : State) (event : Event) (answer : CtlAnswer) (s' : State) → Step s event answer s' → SameSizes s s'
step_sizes s event answer s' (inl does) = does_sizes s event answer s' does
step_sizes s event answer s' (inr none) = subst (SameSizes s) (sym none.2) (here s)

-- ---- steps of others

-- a hold that was lent as it is stays so
held_then : (s s' : State) (lib : ℕ) (b : Parcel) → IsJudgeable s lib (bundle_of b) → LeavesTo s s' lib → (h : HoldParts) → In h b.holds → WasHeld s h → WasHeld s' h
held_then s s' lib b j l h i w =
    let g = j.given.holds h.ino (In-map (λ (x : HoldParts). x.ino) h b.holds i) in
    let same : w.grant ≡ g.grant = alone s.open_grants w.grant g.grant j.kept.apart w.is_open g.is_open (hold_reads w.grant.kind w.kind) (w.ino ∙ sym g.ino) in
    let q = l.grants w.grant w.is_open (ap (λ (x : OpenGrant). x.lib) same ∙ g.lib) in
    record {
      grant = q.0;
      is_open = q.1;
      kind = ap (λ (x : OpenGrant). x.kind) (sym q.2) ∙ w.kind;
      ino = ap (λ (x : OpenGrant). x.ino) (sym q.2) ∙ w.ino;
      body = w.body ∙ ap (λ (x : OpenGrant). x.body) q.2;
    }

creds_then : (s s' : State) (lib : ℕ) → s'.creds ≡ s.creds → creds_of s lib ≡ creds_of s' lib
creds_then s s' lib e = ap (λ (l : List Creds). creds_in l lib) (sym e)

pub moment_lasts : MomentLasts
moment_lasts s event answer s' desk b back w given step apart stand m =
    let lib : ℕ = desk.lib.0 in
    let k : Kept s = m.judgeable.kept in
    let h = step_leaves_leases s event answer s' lib desk.sizes desk.root (leases_in b back) k w given step apart (record { stand = stand; agrees = m.agrees; places = m.places }) in
    let z = step_sizes s event answer s' step in
    let l = other_step_leaves s s' lib event answer k given step apart in (
      record {
        judgeable = record {
          kept = step_kept s s' event answer k given step;
          given = given_through s (Release lib (bundle_of b)) event answer s' k m.judgeable.given given step apart;
          closed = closed_through s lib (bundle_of b) event answer s' k given step apart m.judgeable.closed;
        };
        creds = m.creds ∙ creds_then s s' lib (step_creds s event answer s' step);
        range = m.range ∙ sym z.range;
        inodes = m.inodes ∙ sym z.inodes;
        holds = λ g i. held_then s s' lib b m.judgeable l g i (m.holds g i);
        agrees = h.agrees;
        places = h.places;
      },
      h.stand,
    )

moments_last : (s : State) (moves : List Move) (desk : DeskSeen) (b : Parcel) (back : List Shown)
    → IsMoment s desk b back → AllStand (map standing_of s.open_grants) desk.lib.0 (leases_in b back) → LentWhole s
    → Trace s moves → ((m : Move) → In m moves → library_of m.event ≡ desk.lib.0 → ⊥) → IsMoment (state_after s moves) desk b back
moments_last s [] desk b back m stand w trace others = m
moments_last s (x ∷ moves) desk b back m stand w trace others =
    let lib : ℕ = desk.lib.0 in
    let m0 = subst (λ (t : State). IsMoment t desk b back) (sym trace.0) m in
    let stand0 = subst (λ (t : State). AllStand (map standing_of t.open_grants) lib (leases_in b back)) (sym trace.0) stand in
    let w0 : LentWhole x.before = subst LentWhole (sym trace.0) w in
    let n = moment_lasts x.before x.event x.answer x.after desk b back w0 trace.1 trace.2 (others x (inl refl)) stand0 m0 in
    moments_last x.after moves desk b back n.0 n.1 (step_whole x.before m0.judgeable.kept x.event x.answer x.after trace.2 w0) trace.3 (λ y i. others y (inr i))

pub ready_is_accepted_through : ReadyIsAcceptedThrough
ready_is_accepted_through s moves desk b back calls m stand w trace others ready =
    ready_is_accepted (state_after s moves) desk b back calls (moments_last s moves desk b back m stand w trace others) ready

-- ---- give backs

-- what goes is a read grant
module _ (s : State) (lib ino : ℕ) where
  abbrev stays : OpenGrant → Bool
  stays g = not (eqb g.lib lib && eqb g.ino ino && is_read g.kind)

  stays_open : (g : OpenGrant) → In g s.open_grants → is_read g.kind ≡ false → In g (given_back s lib ino).open_grants
  stays_open g i quiet =
      In-filter stays g s.open_grants i (not_from_false (eqb g.lib lib && eqb g.ino ino && is_read g.kind) (and_right (eqb g.lib lib && eqb g.ino ino) (is_read g.kind) quiet))

  given_then : (mine : ℕ) (b : Bundle) → GivenTo s mine b → GivenTo (given_back s lib ino) mine b
  given_then mine b given = record {
    writes = λ w i. (let g = given.writes w i in record {
      grant = g.grant;
      is_open = stays_open g.grant g.is_open (ap is_read g.kind);
      lib = g.lib;
      kind = g.kind;
      ino = g.ino;
      of = g.of;
      index = g.index;
      blocks = g.blocks;
    });
    holds = λ n i. (let g = given.holds n i in record { grant = g.grant; is_open = stays_open g.grant g.is_open (ap is_read g.kind); lib = g.lib; kind = g.kind; ino = g.ino });
    pages = given.pages;
    numbers = given.numbers;
    full = given.full;
    writes_once = given.writes_once;
    holds_once = given.holds_once;
    pages_once = given.pages_once;
    numbers_once = given.numbers_once;
  }

  closed_then : (mine : ℕ) (b : Bundle) → parted_hold s mine b ≡ None → parted_hold (given_back s lib ino) mine b ≡ None
  closed_then mine b none = unparted_from (given_back s lib ino) mine b (λ g i. unparted_at s mine b g none (filter-In stays g s.open_grants i).0)

back_moment : (s : State) (ino : ℕ) (desk : DeskSeen) (b : Parcel) (back : List Shown) → HasGrant s desk.lib.0 ino Read → Kept (given_back s desk.lib.0 ino)
    → IsMoment s desk b back → IsMoment (given_back s desk.lib.0 ino) desk b back
back_moment s ino desk b back given k' m =
    let lib : ℕ = desk.lib.0 in
    let j = m.judgeable in
    record {
      judgeable = record { kept = k'; given = given_then s lib ino lib (bundle_of b) j.given; closed = closed_then s lib ino lib (bundle_of b) j.closed };
      creds = m.creds;
      range = m.range;
      inodes = m.inodes;
      holds = λ h i. (let w = m.holds h i in record {
        grant = w.grant;
        is_open = stays_open s lib ino w.grant w.is_open (hold_reads w.grant.kind w.kind);
        kind = w.kind;
        ino = w.ino;
        body = w.body;
      });
      agrees = subst (λ (n : Nodes). Agrees desk.sizes desk.root (leases_in b back) n) (sym (back_nodes s j.kept lib ino given)) m.agrees;
      places = m.places;
    }

pub moment_lasts_back : MomentLastsBack
moment_lasts_back s ino answer s' desk b back given (inr none) m = subst (λ (t : State). IsMoment t desk b back) (sym none.2) m
moment_lasts_back s ino answer s' desk b back given (inl does) m =
    let lib : ℕ = desk.lib.0 in
    let k' : Kept (given_back s lib ino) = subst Kept does.1 (step_kept s s' (Back lib ino) answer m.judgeable.kept given (inl does)) in
    subst (λ (t : State). IsMoment t desk b back) (sym does.1) (back_moment s ino desk b back given k' m)
