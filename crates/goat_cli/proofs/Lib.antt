mod Places
