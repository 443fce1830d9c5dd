-- A list door for C promises what the function below it promises: so each theorem on the contracts of `list_exports` is one on the doors.
-- Assumes nothing.
use Rattle.list_exports.proofs.Determined.{Read, Reread, Audit}
use Rattle.list_exports_c.proofs.srv_list_read.Reads as read_for_c
use Rattle.list_exports_c.proofs.srv_list_reread.Reads as reread_for_c
use Rattle.list_exports_c.proofs.srv_list_audit.Reads as audit_for_c

pub srv_list_read_same : (κs : _) (a : _) (r : _) (e : _) → read_for_c.Post κs a r e → Read κs a r e
srv_list_read_same κs a r e p = p

pub srv_list_reread_same : (κs : _) (a : _) (r : _) (e : _) → reread_for_c.Post κs a r e → Reread κs a r e
srv_list_reread_same κs a r e p = p

pub srv_list_audit_same : (κs : _) (a : _) (r : _) (e : _) → audit_for_c.Post κs a r e → Audit κs a r e
srv_list_audit_same κs a r e p = p
