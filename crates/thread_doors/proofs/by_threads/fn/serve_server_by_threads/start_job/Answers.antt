use denote.Exit.{no}
use denote.Param.Send.{param_send, copied_send, arg_send}
use Rattle.thread_doors.proofs.Sent.{told_send}
use Rattle.thread_doors.proofs.by_threads.fn.serve_server_by_threads.start_job.Goals as goal

pub start_thread-requires-send-J : goal.start_thread-requires-send-J
start_thread-requires-send-J g c κs within = let b = c.requires.1.1.1.1.1.1.1.1.1.1.1.1.1.1.1.1.1.1.1.1 in param_send 0 _ (arg_send _ no _ (told_send _ _ _ _ _ _ _ _ _ _ _ _ _ _ _ _ _ _ (param_send 0 _ b.0) (param_send 1 _ b.1) (param_send 6 _ b.6) (param_send 7 _ b.7) (param_send 2 _ b.2) (param_send 3 _ b.3) (param_send 4 _ b.4) (copied_send 5 _ b.5)))
