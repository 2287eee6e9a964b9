use Rattle.trio_session.proofs.session.Session.index.Goals as goal
