-- A file that an accepted bundle merely holds has its content and its pages as before.
use Rattle.trio_app.proofs.Words.{◌∙◌, ◌≡◌, CtlAnswer, Event, GivenEvent, Image, Kept, Release, Some, State, Step, inl, inr, settled, subst, sym, ℕ}
use Rattle.std.proofs.Common.{IsTrue}
use Rattle.trio_rights.specs.Row.{Row}
use Rattle.trio_rights.specs.Bundle.{Bundle}
use Rattle.trio_lists.specs.Lists.{is_among}
use Rattle.trio_layout.specs.Image.{row_at}
use Rattle.trio_state.specs.State.{creds_of}
use Rattle.trio_state.specs.Step.{Grant, Allot, Back, Settle, SetMode, Parted, IsAccepted, IsRefused}
use Rattle.trio_laws.specs.ContentLaws.{HasSameContent}
use Rattle.trio_laws.proofs.HeldFiles.{held_files_keep_content}
use Rattle.trio_app.specs.HeldContent.{Accepts}

pub held_content : (s : State) (event : Event) (answer : CtlAnswer) (s' : State) (c : Bundle) (n : ℕ) (r q : Row)
    → Kept s → GivenEvent s event → Step s event answer s' → Accepts event answer c → row_at (settled s) n ≡ Some r → IsTrue (is_among n c.holds) → row_at (settled s') n ≡ Some q
    → HasSameContent (settled s) (settled s') n
held_content s (Release lib b) answer s' c n r q k given (inl (Parted m parted told same)) is row held row' = absurd (cc (sym told ∙ is.0))
held_content s (Release lib b) answer s' c n r q k given (inl (IsAccepted closed ok told ends)) is row held row' =
    subst (λ (i : Image). HasSameContent (settled s) i n) (sym ends.settles)
    (held_files_keep_content s lib (creds_of s lib) b n r q k given ok row (subst (λ (x : Bundle). IsTrue (is_among n x.holds)) (sym is.1) held) (subst (λ (i : Image). row_at i n ≡ Some q) ends.settles row'))
held_content s (Release lib b) answer s' c n r q k given (inl (IsRefused closed unmet why told tells ends)) is row held row' = absurd (cc (sym told ∙ is.0))
held_content s (Release lib b) answer s' c n r q k given (inr none) is row held row' = absurd (cc (sym none.1 ∙ is.0))
held_content s (Settle lib b) answer s' c n r q k given (inl done) is row held row' =
    let ends = done.3 in
    subst (λ (i : Image). HasSameContent (settled s) i n) (sym ends.settles)
    (held_files_keep_content s lib (creds_of s lib) b n r q k given.0 done.2 row (subst (λ (x : Bundle). IsTrue (is_among n x.holds)) (sym is.1) held) (subst (λ (i : Image). row_at i n ≡ Some q) ends.settles row'))
held_content s (Settle lib b) answer s' c n r q k given (inr none) is row held row' = absurd (cc (sym none.1 ∙ is.0))
held_content s (Grant lib ino kind) answer s' c n r q k given step is row held row' = absurd is
held_content s (Allot lib pages numbers) answer s' c n r q k given step is row held row' = absurd is
held_content s (Back lib ino) answer s' c n r q k given step is row held row' = absurd is
held_content s (SetMode lib ino mode) answer s' c n r q k given step is row held row' = absurd is
