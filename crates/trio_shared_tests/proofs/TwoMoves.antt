-- A file that is handed in in two moves.
use Rattle.trio_shared_tests.proofs.Words.{◌∷◌, ◌≡◌, CaseShown, DeskSeen, Err, IfOk, IfSome, In, LibNo, LibOut, None, Ok, OnList, Option, OutAlike, Result, Some, State, WasGiven, [], desk_left, nothing, parcel_of, refl, subst, sym, ℕ}
use Rattle.trio_lease.specs.Bundles.{Bundled}
use Rattle.trio_lease.specs.Shown.{KeepsUntouched, LentFile}
use Rattle.trio_lease.specs.declared.lease.Lease.TheVariants.{Write}
use Rattle.trio_desk.specs.Contents.{Sizes}
use Rattle.trio_desk.specs.Out.{IsFreshLease, Parcel, with_lease}
use Rattle.trio_raw.specs.Has.{keeps_lease}
use Rattle.trio_raw.proofs.Standing.{stands-lease, stands_alike, whole-given}
use Rattle.trio_entries.specs.Handed.{handed_in}
use Rattle.trio_ctl.specs.HandedIn.{AreMarked}
use Rattle.trio_ctl.specs.DeskLaws.{LentIsMarked}
use Rattle.trio_ctl.proofs.DeskGiven.{were_lent}
use Rattle.trio_shared.specs.Laws.{DeskIsLeft}
use Rattle.trio_shared.specs.Moves.{MayEnd, TellsBeginning}
use Rattle.trio_shared.specs.Turns.{Looks, Seated}
use Rattle.trio_nodes.specs.declared.answers.ReleaseFault.{ReleaseFault}

-- a write lease alone
abbrev alone : LentFile → Parcel
alone f = record { writes = f ∷ []; holds = []; pages = []; inodes = [] }

pub nothing_on_list : (out : LibOut) → OnList out nothing
nothing_on_list out = record {
  writes = λ f i. absurd i;
  reads = λ r i. absurd i;
  holds = λ h i. absurd i;
  pages = λ p i. absurd i;
  numbers = λ n i. absurd i;
  writes_once = refl;
  reads_once = refl;
  holds_once = refl;
  pages_once = refl;
  numbers_once = refl;
}

-- a fresh one is out
pub given_alone : (lib : LibNo) (ino : ℕ) (sizes : Sizes) (out out' : LibOut) (f : LentFile) (o : Option Bundled) → IsFreshLease lib ino sizes out (Write f) → OutAlike out' (with_lease out (Write f))
    → IfSome o (λ b. parcel_of b ≡ record { writes = f ∷ []; holds = []; pages = []; inodes = [] }) → IfSome o (λ b. WasGiven out' (parcel_of b))
given_alone lib ino sizes out out' f None fresh alike is = tt
given_alone lib ino sizes out out' f (Some b) fresh alike is =
    subst (WasGiven out') (sym is)
    (whole-given out' (keeps_lease nothing (Write f))
    (stands_alike out' (with_lease out (Write f)) (keeps_lease nothing (Write f)) alike (stands-lease lib ino sizes out nothing (Write f) (nothing_on_list out) fresh)))

-- what a library has out shows as lent what its grants lent, in the state that its history leaves
pub may_end : DeskIsLeft → LentIsMarked → (old new : Seated) (b : Bundled) (k : CaseShown) (Told : State → Type 0) → Looks old Told new → WasGiven (desk_left new.first new.seen new.lib).out (parcel_of b) → ((f : LentFile) → In f b.writes → KeepsUntouched f) → k.bundle ≡ b → MayEnd new k
may_end law marks old new b k Told l given keeps same = record {
  state = l.after;
  left = l.left;
  marked = subst (λ (x : Bundled). AreMarked l.after new.lib.0 (handed_in x)) (sym same)
      (marks l.after new.lib.0 b l.left.all.kept (were_lent l.after new.lib (parcel_of b) (subst (λ (d : DeskSeen). WasGiven d.out (parcel_of b)) (sym (law new.first new.seen l.after new.lib l.left)) given)) keeps);
}

-- the case that a release begins with has its bundle
pub has_bundle : {B : Type 0} (r : Result CaseShown B) (fault : B → ReleaseFault) (old new : Seated) (lib : LibNo) (b : Bundled) → Looks old (λ s. TellsBeginning s lib b r fault) new → IfOk r (λ k. k.bundle ≡ b)
has_bundle (Ok k) fault old new lib b l = subst (λ (x : CaseShown). x.bundle ≡ b) (sym l.did.1.1) refl
has_bundle (Err back) fault old new lib b l = tt
