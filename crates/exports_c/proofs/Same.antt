-- A door for C promises what the function below it promises: so each theorem on the contracts of `exports` is one on the doors.
-- Assumes nothing.
use Rattle.exports.proofs.srv_read.Reads as read
use Rattle.exports.proofs.srv_measure.Reads as measure
use Rattle.exports.proofs.srv_reread.Reads as reread
use Rattle.exports.proofs.srv_audit.Reads as audit
use Rattle.exports.proofs.srv_version.Reads as version
use Rattle.exports.proofs.srv_class.Reads as class
use Rattle.exports_c.proofs.srv_read.Reads as read_for_c
use Rattle.exports_c.proofs.srv_measure.Reads as measure_for_c
use Rattle.exports_c.proofs.srv_reread.Reads as reread_for_c
use Rattle.exports_c.proofs.srv_audit.Reads as audit_for_c
use Rattle.exports_c.proofs.srv_version.Reads as version_for_c
use Rattle.exports_c.proofs.srv_class.Reads as class_for_c

pub srv_read_same : (κs : _) (a : _) (r : _) (e : _) → read_for_c.Post κs a r e → read.Post κs a r e
srv_read_same κs a r e p = p

pub srv_measure_same : (κs : _) (a : _) (r : _) (e : _) → measure_for_c.Post κs a r e → measure.Post κs a r e
srv_measure_same κs a r e p = p

pub srv_reread_same : (κs : _) (a : _) (r : _) (e : _) → reread_for_c.Post κs a r e → reread.Post κs a r e
srv_reread_same κs a r e p = p

pub srv_audit_same : (κs : _) (a : _) (r : _) (e : _) → audit_for_c.Post κs a r e → audit.Post κs a r e
srv_audit_same κs a r e p = p

pub srv_version_same : (κs : _) (a : _) (r : _) (e : _) → version_for_c.Post κs a r e → version.Post κs a r e
srv_version_same κs a r e p = p

pub srv_class_same : (κs : _) (a : _) (r : _) (e : _) → class_for_c.Post κs a r e → class.Post κs a r e
srv_class_same κs a r e p = p
