-- Each step of another library leaves what a library was given.
use Rattle.trio_laws.proofs.Words.{◌&&◌, ◌∙◌, ◌∷◌, ◌≡◌, Allot, Back, Bool, Bundle, CtlAnswer, Event, GivenEvent, GivenTo, Grant, GrantFault, GrantKind, In, In-cases, In-filter, In-left, IsAccepted, IsRefused, Kept, ModeFault, None, OpenGrant, Option, Parted, Read, Release, ReleaseEnd, Row, SetMode, Settle, Some, State, Step, [], allot_outcome, and_left, ap, arith, eqb, false, filter-In, get_or-set_other, given_back, grant_fault, granted_to, image_with_mode, inl, inr, is_read, lib_at, library_of, logged, mode_fault, moded_to, ne_eqb, not, not_from_false, opens, refl, row_at, row_with_mode, subst, sym, ℕ}
use Rattle.trio_laws.specs.Laws.{GivenThrough, ClosedThrough}
use Rattle.trio_laws.proofs.Bundles.{closed_unparted, closed_all}
use Rattle.trio_laws.proofs.Modes.{may_change}
use Rattle.trio_laws.proofs.Allots.{pages_apart, numbers_apart}
use Rattle.trio_laws.proofs.Cases.{after_allot, after_no_grant, after_no_mode}
use Rattle.trio_laws.proofs.Runs.{step_kept}
use Rattle.trio_laws.proofs.Others.{LeavesTo, has_grant_stays, given_stays, no_read_stays, unparted_stays, refused_leaves, accepted_leaves}

-- a step after which grants, outs and rows stand as they did
same_leaves : (s s' : State) (lib : ℕ) → s'.open_grants ≡ s.open_grants → s'.pages_out ≡ s.pages_out → s'.numbers_out ≡ s.numbers_out → ((g : OpenGrant) (q : Row) → In g s.open_grants → row_at s'.home g.ino ≡ Some q → (r : Row) × (row_at s.home g.ino ≡ Some r) × (r.parent ≡ q.parent)) → LeavesTo s s' lib
same_leaves s s' lib a b c rows = record {
  grants = λ g i mine. (g, subst (λ l. In g l) (sym a) i, refl);
  none_new = λ h i mine. (h, subst (λ l. In h l) a i, refl);
  pages = λ n mine. ap (λ l. lib_at l n) b ∙ mine;
  numbers = λ n mine. ap (λ l. lib_at l n) c ∙ mine;
  parents = λ g q i mine row. rows g q i row;
}

no_step_leaves : (s : State) (lib : ℕ) → LeavesTo s s lib
no_step_leaves s lib = same_leaves s s lib refl refl refl (λ g q i row. (q, row, refl))

logged_leaves : (s : State) (lib : ℕ) → LeavesTo s (logged s) lib
logged_leaves s lib = same_leaves s (logged s) lib refl refl refl (λ g q i row. (q, row, refl))

opens_leaves : (s : State) (g : OpenGrant) (lib : ℕ) → (g.lib ≡ lib → ⊥) → LeavesTo s (opens s g) lib
opens_leaves s g lib apart = record {
  grants = λ h i mine. (h, In-left h s.open_grants (g ∷ []) i, refl);
  none_new = λ h i mine. elim (In-cases h s.open_grants (g ∷ []) i) [
    | inl old ↦ (h, old, refl)
    | inr new ↦ elim new [ inl same ↦ absurd (apart (ap (λ (x : OpenGrant). x.lib) (sym same) ∙ mine)) | inr z ↦ absurd z ]
  ];
  pages = λ n mine. mine;
  numbers = λ n mine. mine;
  parents = λ h q i mine row. (q, row, refl);
}

grant_leaves : (s : State) (lib other ino : ℕ) (kind : GrantKind) (a : Option GrantFault) (o : Option Row) → (other ≡ lib → ⊥) → LeavesTo s (granted_to s other ino kind a o).after lib
grant_leaves s lib other ino kind a o apart = search (arith, after_no_grant, no_step_leaves, logged_leaves, opens_leaves)

allot_leaves : (s : State) (lib other count many : ℕ) → LeavesTo s (allot_outcome s other count many).after lib
allot_leaves s lib other count many =
    after_allot (λ x. LeavesTo s x lib) s other count many (logged_leaves s lib)
    (record {
      grants = λ g i mine. (g, i, refl);
      none_new = λ h i mine. (h, i, refl);
      pages = λ n mine. pages_apart s other count many lib n mine;
      numbers = λ n mine. numbers_apart s other count many lib n mine;
      parents = λ g q i mine row. (q, row, refl);
    })

back_leaves : (s : State) (lib other ino : ℕ) → (other ≡ lib → ⊥) → LeavesTo s (given_back s other ino) lib
back_leaves s lib other ino apart =
    let stays : OpenGrant → Bool = λ g. not (eqb g.lib other && eqb g.ino ino && is_read g.kind) in
    record {
      grants = λ g i mine.
          let away : (eqb g.lib other && eqb g.ino ino && is_read g.kind) ≡ false =
          and_left (eqb g.lib other && eqb g.ino ino) (is_read g.kind) (and_left (eqb g.lib other) (eqb g.ino ino) (ne_eqb g.lib other (λ e. apart (sym e ∙ mine)))) in
          (g, In-filter stays g s.open_grants i (not_from_false (eqb g.lib other && eqb g.ino ino && is_read g.kind) away), refl);
      none_new = λ h i mine. (h, (filter-In stays h s.open_grants i).0, refl);
      pages = λ n mine. mine;
      numbers = λ n mine. mine;
      parents = λ g q i mine row. (q, row, refl);
    }

mode_leaves : (s : State) (lib other ino mode : ℕ) (o : Option Row) (a : Option ModeFault) → mode_fault s other ino mode o ≡ a → LeavesTo s (moded_to s ino mode a).after lib
mode_leaves s lib other ino mode o (Some fault) e = after_no_mode (λ x. LeavesTo s x lib) s fault (no_step_leaves s lib) (logged_leaves s lib)
mode_leaves s lib other ino mode None None e = absurd cc
mode_leaves s lib other ino mode (Some r) None e =
    let may = may_change s other ino mode r e in
    same_leaves s (logged (record s { home = image_with_mode s.home ino mode })) lib refl refl refl
    (λ g q i row.
    let same : row_at (image_with_mode s.home ino mode) g.ino ≡ row_at s.home g.ino =
    get_or-set_other s.home.rows ino g.ino (row_with_mode mode (row_at s.home ino)) None (may.free g i).0 in
    (q, sym same ∙ row, refl))

release_leaves : (s s' : State) (lib other : ℕ) (b : Bundle) (answer : CtlAnswer) → Kept s → GivenTo s other b → (other ≡ lib → ⊥) → ReleaseEnd s other b answer s' → LeavesTo s s' lib
release_leaves s s' lib other b answer k given apart (Parted n none e same) = (let L : State → Type 0 = λ x. LeavesTo s x lib in subst L (sym same) (no_step_leaves s lib))
release_leaves s s' lib other b answer k given apart (IsAccepted none t e ends) = accepted_leaves s s' k lib other b given (closed_unparted s other b none) t ends (λ x. apart (sym x))
release_leaves s s' lib other b answer k given apart (IsRefused none f why e tells ends) = refused_leaves s s' k lib other b given ends (λ x. apart (sym x))

-- a step of another library leaves what a library has out
pub other_step_leaves : (s s' : State) (lib : ℕ) (event : Event) (answer : CtlAnswer) → Kept s → GivenEvent s event → Step s event answer s' → (library_of event ≡ lib → ⊥) → LeavesTo s s' lib
other_step_leaves s s' lib event answer k given (inr none) apart =
    let L : State → Type 0 = λ x. LeavesTo s x lib in subst L (sym none.2) (no_step_leaves s lib)
other_step_leaves s s' lib (Grant other ino kind) answer k given (inl does) apart =
    let L : State → Type 0 = λ x. LeavesTo s x lib in subst L (sym does.1) (grant_leaves s lib other ino kind (grant_fault s other ino kind) (row_at s.home ino) apart)
other_step_leaves s s' lib (Allot other count many) answer k given (inl does) apart =
    let L : State → Type 0 = λ x. LeavesTo s x lib in subst L (sym does.1) (allot_leaves s lib other count many)
other_step_leaves s s' lib (Back other ino) answer k given (inl does) apart =
    let L : State → Type 0 = λ x. LeavesTo s x lib in subst L (sym does.1) (back_leaves s lib other ino apart)
other_step_leaves s s' lib (Release other b) answer k given (inl does) apart =
    release_leaves s s' lib other b answer k given apart does
other_step_leaves s s' lib (Settle other b) answer k given (inl does) apart =
    accepted_leaves s s' k lib other b given.0 (closed_all s other b does.1) does.2 does.3 (λ x. apart (sym x))
other_step_leaves s s' lib (SetMode other ino mode) answer k given (inl does) apart =
    let L : State → Type 0 = λ x. LeavesTo s x lib in subst L (sym does.1) (mode_leaves s lib other ino mode (row_at s.home ino) (mode_fault s other ino mode (row_at s.home ino)) refl)

event_stays : (s s' : State) (mine : Event) → LeavesTo s s' (library_of mine) → GivenEvent s mine → GivenEvent s' mine
event_stays s s' (Grant lib ino kind) l given = given
event_stays s s' (Allot lib pages numbers) l given = given
event_stays s s' (Back lib ino) l given = has_grant_stays s s' lib ino Read l given
event_stays s s' (Release lib b) l given = given_stays s s' lib b given l
event_stays s s' (Settle lib b) l given = (given_stays s s' lib b given.0 l, no_read_stays s s' lib given.1 l)
event_stays s s' (SetMode lib ino mode) l given = given

-- what a library hands in stays given through the steps of others
pub given_through : GivenThrough
given_through s mine event answer s' k given event_given step apart =
    event_stays s s' mine (other_step_leaves s s' (library_of mine) event answer k event_given step apart) given

pub closed_through : ClosedThrough
closed_through s lib b event answer s' k given step apart none =
    unparted_stays s s' lib b (step_kept s s' event answer k given step) (other_step_leaves s s' lib event answer k given step apart) none
