mod RunSessions
